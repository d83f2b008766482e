pub mod Focusing
mod States
mod Turned
