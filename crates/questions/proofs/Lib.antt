pub mod Given
pub mod Answering
