pub mod Reply
pub mod Area
pub mod Reading
pub mod Answer
pub mod Arity
pub mod Stop
