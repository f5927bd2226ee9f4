mod Spelling
pub mod Facts
