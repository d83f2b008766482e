pub mod Admitting
pub mod Replies
