pub mod Apart
pub mod Laws
pub mod State
pub mod Step
pub mod Rows
pub mod private
