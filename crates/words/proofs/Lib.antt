pub mod Numbers
pub mod Refusing
