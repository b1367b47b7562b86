pub mod Languages
pub mod Faults
pub mod Spelling
pub mod Slots
pub mod Lines
pub mod Reading
