pub mod Lines
pub mod Translation
pub mod Machine
pub mod Laws
pub mod Ready
pub mod Samples
pub mod private
