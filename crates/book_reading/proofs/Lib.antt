pub mod Lines
pub mod Walk
pub mod Whole
