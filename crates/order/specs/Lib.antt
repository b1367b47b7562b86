pub mod Sorting
pub mod Orders
