pub mod Struck
