pub mod Tab
pub mod Pack
pub mod Equal
pub mod Loading
pub mod Round
