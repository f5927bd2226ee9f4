pub mod Prelude
pub mod Lines
pub mod Places
pub mod Texts
pub mod Facts
pub mod Walks
