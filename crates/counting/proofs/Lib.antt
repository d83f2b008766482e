pub mod Calls
mod Ending
