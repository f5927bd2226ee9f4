pub mod Stretches
pub mod private
