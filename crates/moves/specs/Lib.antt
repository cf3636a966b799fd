pub mod Mirrored
pub mod Answers
pub mod Rows
