pub mod Sweep
pub mod Dearest
pub mod Loop
pub mod Answer
pub mod Examples
