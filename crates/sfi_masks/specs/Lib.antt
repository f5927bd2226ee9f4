pub mod Masks
pub mod private
