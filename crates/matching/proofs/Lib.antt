-- The theorems about matching.
pub mod Verdict
pub mod Claims
pub mod Calls
