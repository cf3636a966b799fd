pub mod Exact
pub mod Keyed
