pub mod Matching
pub mod Answer
