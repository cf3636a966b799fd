pub mod Scan
pub mod Slots
