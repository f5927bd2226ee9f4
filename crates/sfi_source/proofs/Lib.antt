pub mod NameTable
pub mod Facts
