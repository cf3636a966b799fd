pub mod Decides
pub mod Answer
pub mod Verdicts
