pub mod Functions
pub mod Letters
pub mod Store
