pub mod Cases
pub mod Spans
pub mod Numbers
