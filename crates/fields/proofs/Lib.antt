-- The laws that the code's proofs cite, here and in the crates above.
pub mod Tests
pub mod Joined
pub mod Stops
pub mod Cutting
