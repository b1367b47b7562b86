pub mod Digits
pub mod Holding
pub mod Weighing
pub mod Moving
