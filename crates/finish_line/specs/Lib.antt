pub mod Request
pub mod Edges
pub mod Answer
