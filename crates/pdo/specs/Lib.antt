pub mod Receive
pub mod Send
pub mod Asked
