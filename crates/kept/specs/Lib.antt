pub mod Determined
pub mod Ours
pub mod Contracted
pub mod OursInC
