pub mod StandardIo
