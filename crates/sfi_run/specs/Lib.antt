pub mod Changes
pub mod Held
pub mod Laws
pub mod Names
pub mod Snapshots
