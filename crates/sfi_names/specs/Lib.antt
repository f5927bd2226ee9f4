pub mod Tables
pub mod Faults
pub mod Images
pub mod Laws
pub mod Rooms
pub mod private
