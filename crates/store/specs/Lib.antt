pub mod Meaning
pub mod Outcomes
pub mod Stores
pub mod Laws
