mod Harmless
mod Sound
mod Accepting
mod Written
mod Events
pub mod Facts
