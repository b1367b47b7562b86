pub mod Kinds
pub mod Calibrations
pub mod Readings
pub mod Figures
pub mod Texts
