pub mod Nodes
pub mod Freezing
pub mod Entering
pub mod Spreading
pub mod Standing
pub mod Substituting
