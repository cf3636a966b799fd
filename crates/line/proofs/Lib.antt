pub mod Counts
pub mod IntervalLaws
pub mod Numbered
pub mod Places
pub mod Putting
pub mod Marking
