pub mod Printing
pub mod Programs
pub mod Examples
