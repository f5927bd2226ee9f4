pub mod Prelude
pub mod Firsts
pub mod Fronts
pub mod Exact
pub mod Ranges
pub mod Spellings
pub mod Table
pub mod Facts
