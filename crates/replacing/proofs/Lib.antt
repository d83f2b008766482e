pub mod Holding
pub mod Spelling
pub mod Spelled
