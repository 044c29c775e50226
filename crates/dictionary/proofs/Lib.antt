pub mod Laws
pub mod Maps
pub mod Written
pub mod Decisions
pub mod Verdict
pub mod Aborts
pub mod Mirror
