pub mod Ends
pub mod Unique
pub mod RowsRead
