pub mod Exported
pub mod ExportedLaws
pub mod Unpacked
