pub mod Moves
pub mod Parts
pub mod Streams
pub mod private
