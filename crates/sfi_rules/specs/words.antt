-- The rules of code in words.
pub mod Rules
pub mod Findings
