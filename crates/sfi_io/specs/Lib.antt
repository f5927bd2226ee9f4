pub mod Hexadecimal
pub mod Pieces
pub mod Laws
pub mod private
