pub mod Formats
pub mod Parsed
pub mod Records
pub mod Frame
pub mod Proper
