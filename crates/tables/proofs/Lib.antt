pub mod Bridge
pub mod ExecutedLaws
pub mod SaturateLaws
pub mod Shown
pub mod TableLaws
pub mod Exact
pub mod Show
pub mod Seeds
