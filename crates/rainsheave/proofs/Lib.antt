pub mod Sound
pub mod Promises
pub mod Images
pub mod Settling
pub mod Listed
