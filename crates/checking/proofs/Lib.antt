-- The laws that the code's proofs cite.
pub mod Claimed
pub mod Walk
