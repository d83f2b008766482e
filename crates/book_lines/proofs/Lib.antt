pub mod Naming
pub mod Scanning
pub mod Using
pub mod Judging
pub mod Faults
