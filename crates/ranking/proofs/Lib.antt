pub mod Lists
pub mod Placing
pub mod Ranked
mod Walking
