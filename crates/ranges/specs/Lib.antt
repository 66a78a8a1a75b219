pub mod Sets
pub mod Percent
pub mod PercentLaw
pub mod Open
pub mod OpenLaw
