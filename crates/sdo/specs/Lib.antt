pub mod Frames
pub mod Serve
pub mod Asked
pub mod Acknowledged
