pub mod Words
mod Writing
pub mod At
