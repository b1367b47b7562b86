pub mod Steps
pub mod Holds
pub mod Plain
pub mod Calls
pub mod Turns
pub mod Opens
pub mod Laws
