pub mod Advancing
