pub mod Names
pub mod Source
pub mod Laws
