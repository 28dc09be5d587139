pub mod Answered
pub mod Each
pub mod Plans
pub mod Printed
pub mod Slots
pub mod Table
pub mod Whole
