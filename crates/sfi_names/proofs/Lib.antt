pub mod Ends
pub mod Answering
pub mod Entries
pub mod Rooms
pub mod Facts
