pub mod Spelling
pub mod Decoding
pub mod Laws
