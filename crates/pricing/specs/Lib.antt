pub mod Sides
pub mod Price
pub mod Outcomes
pub mod Laws
pub mod Passes
