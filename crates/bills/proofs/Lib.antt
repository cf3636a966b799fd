pub mod Ended
pub mod Exact
pub mod Low
pub mod Moved
pub mod Same
pub mod Totals
pub mod Worked
