pub mod private
pub mod Executing
pub mod Running
pub mod Says
pub mod Laws
