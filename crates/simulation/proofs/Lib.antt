pub mod Machines
pub mod Failures
