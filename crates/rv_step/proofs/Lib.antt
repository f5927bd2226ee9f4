pub mod Prelude
pub mod Agreeing
pub mod Calls
pub mod States
pub mod Standing
pub mod Steps
pub mod Pairs
pub mod Facts
