pub mod Runs
pub mod Safety
pub mod Calling
pub mod Laws
