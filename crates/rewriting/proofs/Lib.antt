pub mod Tested
pub mod Rules
