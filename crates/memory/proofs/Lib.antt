pub mod Cut
pub mod Halves
