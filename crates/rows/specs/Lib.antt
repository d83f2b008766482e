pub mod Ringing
pub mod RingsAs
pub mod Storing
pub mod Answer
