pub mod Laws
pub mod Soonest
