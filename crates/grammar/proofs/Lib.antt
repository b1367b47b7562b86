pub mod Numbers
pub mod Firsts
pub mod Fronts
pub mod Seams
pub mod Wholes
pub mod Once
pub mod Cuts
