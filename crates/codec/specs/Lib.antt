pub mod Words
pub mod Records
pub mod Kinds
pub mod Laws
