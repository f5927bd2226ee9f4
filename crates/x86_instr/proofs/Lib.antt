mod Spelled
pub mod Facts
