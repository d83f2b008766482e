pub mod Loading
pub mod Stack
