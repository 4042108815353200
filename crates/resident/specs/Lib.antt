pub mod Mirrors
pub mod Settled
