pub mod Numbers
pub mod Replies
pub mod Later
pub mod Laid
pub mod Back
pub mod Exactly
pub mod Calls
