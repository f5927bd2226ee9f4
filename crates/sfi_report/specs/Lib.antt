pub mod Report
pub mod Listing
pub mod State
pub mod Laws
pub mod private
