pub mod Contracting
pub mod Groups
