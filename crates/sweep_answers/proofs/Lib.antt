pub mod Printing
pub mod Caps
pub mod Programs
pub mod Examples
