pub mod States
pub mod Device
pub mod Events
pub mod Queries
pub mod Sound
pub mod Numbers
pub mod Kept
pub mod Demand
