pub mod Left
pub mod Text
pub mod Faults
