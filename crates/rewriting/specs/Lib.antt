pub mod Rewriting
pub mod Text
