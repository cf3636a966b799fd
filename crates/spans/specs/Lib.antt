pub mod Ended
pub mod Runs
pub mod Code
