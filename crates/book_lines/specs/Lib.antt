pub mod Scan
pub mod Uses
pub mod Fault
pub mod Number
