pub mod Ranks
pub mod Walks
pub mod Sided
pub mod Settled
pub mod Executes
pub mod Writing
pub mod Taken
