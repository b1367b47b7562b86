pub mod Tape
pub mod Moves
pub mod Image
pub mod Laws
pub mod Rows
