pub mod Fields
pub mod Load
pub mod Walk
pub mod Asked
