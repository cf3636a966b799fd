pub mod Joining
pub mod Ranks
