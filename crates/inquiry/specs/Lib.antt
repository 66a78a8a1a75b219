pub mod Loading
pub mod Questions
