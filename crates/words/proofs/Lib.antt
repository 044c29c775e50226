pub mod Numbers
pub mod Runs
pub mod Laws
pub mod Written
pub mod Back
