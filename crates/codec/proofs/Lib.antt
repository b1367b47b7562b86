pub mod Overs
pub mod Digits
