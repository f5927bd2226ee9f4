pub mod Vectors
pub mod Fields
pub mod Cells
pub mod Told
pub mod Bases
pub mod Block
pub mod Singles
