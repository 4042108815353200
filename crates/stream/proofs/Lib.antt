pub mod Tables
pub mod Lines
pub mod Whole
pub mod Turns
pub mod Chunks
pub mod Pieces
pub mod Blocks
