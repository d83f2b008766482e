pub mod Answer
pub mod Table
