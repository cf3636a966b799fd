pub mod State
pub mod Holding
