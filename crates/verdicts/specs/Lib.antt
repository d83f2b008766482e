pub mod Comparing
pub mod Answer
pub mod Turning
