pub mod Runs
pub mod Laws
pub mod TwoCalls
pub mod InPlace
