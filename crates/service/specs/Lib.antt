pub mod Tables
pub mod Charging
pub mod Code
