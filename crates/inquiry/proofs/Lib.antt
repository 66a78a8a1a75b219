pub mod Loaded
pub mod Asked
