pub mod Answer
pub mod Claim
