pub mod Lawfuls
pub mod Stores
