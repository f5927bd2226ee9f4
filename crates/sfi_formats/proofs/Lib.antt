pub mod Formats
pub mod Facts
