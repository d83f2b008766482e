pub mod Mixing
pub mod Programs
