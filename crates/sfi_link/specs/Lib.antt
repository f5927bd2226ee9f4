pub mod Code
pub mod Linked
pub mod Faults
pub mod Standing
pub mod Names
pub mod Laws
pub mod private
