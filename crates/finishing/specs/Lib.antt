pub mod Finishing
pub mod Answer
pub mod Loop
pub mod RunOf
