pub mod Ending
pub mod Calls
mod Batches
