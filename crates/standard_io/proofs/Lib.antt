pub mod Laws
pub mod KnownBytes
