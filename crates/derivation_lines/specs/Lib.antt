pub mod Number
pub mod TextLine
