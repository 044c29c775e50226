pub mod Calls
pub mod Fixed
