pub mod Books
pub mod Striking
pub mod Asking
