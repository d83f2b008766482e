-- The catalogue: what `write` leaves in the store, and each way out of `enter` and of `enter_result`.
pub mod Writing
pub mod Ending
