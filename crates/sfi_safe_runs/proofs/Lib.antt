pub mod Prelude
pub mod Entries
pub mod Accessing
pub mod Beside
pub mod Stepping
pub mod SafeRuns
pub mod Settings
pub mod Facts
