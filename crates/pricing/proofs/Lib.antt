pub mod Extremes
pub mod Prices
pub mod Passing
pub mod Scans
