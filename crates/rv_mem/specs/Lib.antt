pub mod Bytes
pub mod Faults
pub mod Frames
pub mod Laws
pub mod Pages
pub mod Segment
pub mod Segments
pub mod private
