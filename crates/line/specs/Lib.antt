pub mod Pieces
pub mod Cuts
pub mod CutLaws
pub mod Intervals
pub mod Code
pub mod CutList
