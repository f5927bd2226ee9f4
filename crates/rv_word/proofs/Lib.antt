mod Words
mod Decided
mod Cut
mod Spellings
mod Outlines
mod Tables
pub mod Prelude
pub mod Facts
