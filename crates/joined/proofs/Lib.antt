pub mod Joining
pub mod Mapped
