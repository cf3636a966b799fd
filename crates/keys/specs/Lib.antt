pub mod Search
pub mod Slots
