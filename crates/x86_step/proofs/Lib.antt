pub mod Bytes
pub mod Shifts
pub mod Fixed
pub mod Running
pub mod Accesses
pub mod Missing
pub mod Ways
pub mod Facts
