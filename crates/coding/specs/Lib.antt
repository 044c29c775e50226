pub mod Coding
pub mod Bytes
pub mod Asked
