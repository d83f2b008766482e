pub mod Shelves
pub mod Lining
