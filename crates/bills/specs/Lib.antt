pub mod Billed
pub mod Bill
pub mod Rows
