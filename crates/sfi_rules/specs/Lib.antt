pub mod Readings
pub mod Rules
pub mod words
pub mod Findings
pub mod Laws
