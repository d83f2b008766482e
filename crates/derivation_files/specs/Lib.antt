pub mod Line
pub mod Instance
pub mod Checking
pub mod Accepted
pub mod Claim
pub mod Checks
pub mod LaidOut
