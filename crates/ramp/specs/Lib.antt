pub mod Ramp
pub mod Asked
pub mod Demand
