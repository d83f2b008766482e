pub mod Skip
pub mod Heads
pub mod Pieces
pub mod Laid
pub mod Storing
