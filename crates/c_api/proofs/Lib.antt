pub mod Answers
pub mod Calls
pub mod Lasting
pub mod Promised
