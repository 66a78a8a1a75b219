pub mod Codes
pub mod Terms
pub mod Orders
pub mod Ranks
pub mod Phases
pub mod Refused
