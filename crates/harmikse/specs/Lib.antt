pub mod Program
pub mod Code
pub mod Uses
pub mod Reached
pub mod LineLaws
