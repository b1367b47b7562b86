pub mod Vacant
pub mod Ends
pub mod Rooms
