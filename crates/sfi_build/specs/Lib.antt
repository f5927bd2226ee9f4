pub mod Tables
pub mod Texts
pub mod Laws
pub mod private
