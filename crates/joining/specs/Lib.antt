pub mod Join
pub mod Joining
pub mod Joins
pub mod Answer
