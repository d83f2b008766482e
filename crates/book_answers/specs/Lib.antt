pub mod Shown
pub mod Program
pub mod Examples
