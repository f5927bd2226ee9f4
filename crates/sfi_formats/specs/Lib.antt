pub mod Limits
pub mod Numbers
pub mod Formats
pub mod Places
pub mod Laws
