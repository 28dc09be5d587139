pub mod Chart
pub mod Drafting
pub mod Model
pub mod Tables
