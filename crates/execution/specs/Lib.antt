pub mod Execution
pub mod Settling
pub mod Laws
pub mod Shares
