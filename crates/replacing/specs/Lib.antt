pub mod Spelled
pub mod Leaves
