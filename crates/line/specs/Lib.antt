pub mod Scan
pub mod Blank
pub mod Columns
