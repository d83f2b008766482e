-- The theorems about types' texts.
pub mod Parse
pub mod Scan
pub mod Owed
pub mod Made
