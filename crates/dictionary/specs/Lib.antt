pub mod Named
pub mod Values
pub mod Aborts
pub mod Decide
pub mod Asked
pub mod Accept
