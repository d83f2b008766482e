pub mod Plugging
pub mod Front
