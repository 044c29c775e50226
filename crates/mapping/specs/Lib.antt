pub mod Maps
pub mod Rules
pub mod Sound
pub mod Asked
