pub mod Edges
pub mod Caps
pub mod Buffer
pub mod Shape
pub mod Reached
