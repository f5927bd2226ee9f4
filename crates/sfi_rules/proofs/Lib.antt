pub mod Prelude
pub mod Formats
pub mod Facts
pub mod Findings
pub mod OneList
pub mod WordRules
