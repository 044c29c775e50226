pub mod Dither
pub mod Phase
pub mod Wave
pub mod Sound
pub mod Asked
pub mod Examples
