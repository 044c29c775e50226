pub mod Block
pub mod Target
pub mod Command
pub mod Sound
pub mod Travel
pub mod Asked
