-- Joining: the text and the size of a join, what the function writes, what a call comes to, and what a join does.
pub mod Text
mod Writing
mod Ending
pub mod Calls
pub mod Applied
pub mod Unapplied
