pub mod Laws
pub mod Waiting
pub mod Held
pub mod HeldText
