pub mod Prelude
pub mod AsBox
pub mod AsConsoleBox
pub mod AsModuleBox
pub mod Loaded
pub mod Events
pub mod Facts
