pub mod Linear
pub mod Cases
pub mod Each
pub mod Range
pub mod Machine
