pub mod Batch
pub mod TwoCalls
