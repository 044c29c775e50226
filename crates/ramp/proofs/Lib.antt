pub mod Moves
pub mod Rounding
pub mod Legs
pub mod Bounds
pub mod Formula
pub mod Travel
pub mod Demand
