pub mod Walking
pub mod Ending
