pub mod Good
pub mod Storing
pub mod Laying
pub mod Calls
pub mod Ending
pub mod GoodRows
pub mod Exactly
pub mod Back
