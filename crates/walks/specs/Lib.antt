pub mod Outcomes
pub mod Keys
