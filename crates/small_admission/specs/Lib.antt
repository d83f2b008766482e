pub mod Admission
pub mod Answer
