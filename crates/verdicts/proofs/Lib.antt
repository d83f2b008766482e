pub mod Calls
pub mod Turning
pub mod Ending
