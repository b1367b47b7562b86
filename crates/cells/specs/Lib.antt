pub mod Walk
pub mod Held
pub mod Laws
