pub mod Found
pub mod Facts
