pub mod Placeless
mod Writing
mod Placing
mod Naming
mod FirstData
mod Moves
mod Renamed
pub mod Relaid
pub mod Neighbours
pub mod Facts
