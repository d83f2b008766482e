pub mod Keys
pub mod Given
pub mod Chains
