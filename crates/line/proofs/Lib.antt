pub mod Signed
pub mod Reading
pub mod Writing
pub mod Parts
pub mod Columns
pub mod Scan
pub mod Meaning
pub mod Codes
