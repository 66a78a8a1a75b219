pub mod Sound
pub mod States
pub mod Calls
pub mod Laws
