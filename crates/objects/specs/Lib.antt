pub mod Numbers
pub mod Places
pub mod Table
pub mod Lookup
pub mod Asked
