pub mod Printed
pub mod Examples
