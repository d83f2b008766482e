pub mod Counting
pub mod Answer
