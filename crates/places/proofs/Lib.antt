pub mod Sizes
pub mod Lay
