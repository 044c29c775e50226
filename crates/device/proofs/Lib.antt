pub mod Laws
pub mod Refusals
pub mod Kept
pub mod Travel
