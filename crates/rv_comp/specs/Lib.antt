pub mod Fronts
pub mod Laws
pub mod Table
pub mod mirror
pub mod private
