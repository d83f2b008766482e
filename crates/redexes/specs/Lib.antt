pub mod Spot
pub mod Moves
