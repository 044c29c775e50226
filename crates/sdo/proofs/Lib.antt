pub mod Laws
pub mod Frames
pub mod Promises
pub mod Aborts
