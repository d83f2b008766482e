pub mod Comparing
pub mod Searching
pub mod Replaying
