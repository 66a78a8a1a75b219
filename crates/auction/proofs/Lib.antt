pub mod Dues
pub mod Sounds
pub mod Trades
