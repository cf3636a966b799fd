pub mod Ends
pub mod Limited
pub mod Names
pub mod Readings
pub mod SameLaws
pub mod Sums
