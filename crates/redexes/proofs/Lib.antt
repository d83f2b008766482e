pub mod Starts
pub mod Moves
pub mod Found
