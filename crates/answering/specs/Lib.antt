pub mod Program
pub mod Answer
