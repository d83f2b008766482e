pub mod Requests
pub mod Ranges
pub mod Caps
pub mod Zeros
pub mod Lengths
pub mod Verdicts
pub mod Programs
