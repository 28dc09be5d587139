pub mod Blocks
pub mod Meaning
