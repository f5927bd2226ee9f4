pub mod InputPieces
pub mod Sources
pub mod Conversions
pub mod Moves
pub mod Images
mod MovedLinks
pub mod Facts
