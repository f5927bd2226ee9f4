pub mod State
pub mod Step
pub mod Held
pub mod Laws
pub mod Running
pub mod Accesses
