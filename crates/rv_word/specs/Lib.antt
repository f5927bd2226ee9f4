pub mod Spelling
pub mod Outlines
pub mod Laws
pub mod private
