pub mod Keeping
pub mod Outcome
