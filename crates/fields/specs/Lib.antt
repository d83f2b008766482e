pub mod Texts
pub mod Fields
