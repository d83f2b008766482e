pub mod Calls
pub mod Admitting
pub mod Answers
