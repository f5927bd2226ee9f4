pub mod OneVerdict
pub mod Verdict
pub mod Feeds
pub mod ForC
pub mod Converting
pub mod private
