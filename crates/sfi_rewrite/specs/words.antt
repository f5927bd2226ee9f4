-- The expansions and the placement of code in words, its faults, and what its expansions do.
pub mod Expansion
pub mod Transparency
pub mod Samples
