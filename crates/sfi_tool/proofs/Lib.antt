pub mod Prelude
pub mod StateTexts
pub mod Turns
pub mod Budgets
pub mod Progress
pub mod Calls
pub mod Jobs
mod OneFault
pub mod Facts
