pub mod private
pub mod Command
