pub mod Spelled
pub mod Words
pub mod Program
