pub mod Model
pub mod Depths
pub mod Joined
pub mod Untouched
pub mod Interpretations
pub mod Classes
pub mod Printed
