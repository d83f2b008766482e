pub mod Packing
pub mod Keeping
pub mod Opening
pub mod Building
pub mod Staging
