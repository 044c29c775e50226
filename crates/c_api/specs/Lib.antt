pub mod Exported
pub mod Asked
pub mod Promised
