pub mod Repeats
pub mod Counting
