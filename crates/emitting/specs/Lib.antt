pub mod Emitting
pub mod Closing
