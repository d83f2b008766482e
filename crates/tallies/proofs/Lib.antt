pub mod Uses
mod Sums
