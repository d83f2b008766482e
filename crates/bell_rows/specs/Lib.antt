pub mod Chain
pub mod Row
pub mod Bytes
pub mod Key
