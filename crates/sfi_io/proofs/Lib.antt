pub mod Prelude
pub mod Ahead
pub mod Faults
pub mod Facts
pub mod Fronts
pub mod Leads
pub mod Digits
