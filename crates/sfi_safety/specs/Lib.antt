pub mod Laws
pub mod Places
pub mod Samples
pub mod WordSamples
pub mod Clean
pub mod Needed
