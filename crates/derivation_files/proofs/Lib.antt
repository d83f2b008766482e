-- The theorems about derivation files.
pub mod Instance
pub mod Split
pub mod Numeral
pub mod GoodLines
pub mod FoundLines
pub mod Bodies
pub mod Claim
pub mod Checks
pub mod Listed
pub mod Files
pub mod LaidOut
