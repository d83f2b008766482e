pub mod Parts
pub mod Edges
pub mod Fed
pub mod Kept
pub mod State
pub mod End
