pub mod Sorts
pub mod Numbers
pub mod Selects
