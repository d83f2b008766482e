pub mod Skip
pub mod Ends
