pub mod Squares
pub mod Tables
