pub mod Table
pub mod Sound
pub mod Laws
pub mod Travel
