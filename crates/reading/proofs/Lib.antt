pub mod BellBytes
pub mod Scan
pub mod Whole
pub mod Terms
pub mod Numbers
pub mod Refusing
pub mod Stops
