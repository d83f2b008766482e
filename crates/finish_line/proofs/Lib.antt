pub mod Edges
pub mod Asks
