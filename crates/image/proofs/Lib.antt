pub mod Lengths
pub mod LowBytes
pub mod Stored
pub mod Loaded
pub mod Full
pub mod Split
pub mod Walks
pub mod Trip
