pub mod Small
pub mod Texts
pub mod Writing
