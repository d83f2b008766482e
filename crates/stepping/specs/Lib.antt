pub mod Areas
pub mod Stepping
pub mod Answer
pub mod Held
pub mod Batch
