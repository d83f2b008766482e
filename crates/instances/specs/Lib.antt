pub mod Behind
pub mod TextInstance
