pub mod Places
pub mod Soonest
pub mod Waits
