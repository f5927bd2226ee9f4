pub mod Beside
pub mod Moving
pub mod private
