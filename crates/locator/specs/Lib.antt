pub mod Questions
pub mod Lines
pub mod Messages
