pub mod Tails
pub mod Fitting
pub mod Making
pub mod Building
pub mod Whole
pub mod Facts
