pub mod Shows
pub mod Saturate
pub mod Executed
pub mod Tables
pub mod Seeded
