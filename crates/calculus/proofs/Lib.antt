-- The theorems about the definitions, in the order of the argument.
pub mod Bells
pub mod PrefixCode
pub mod Heads
pub mod Order
pub mod Confluence
pub mod SubjectReduction
pub mod Derivations
pub mod Sizes
pub mod Runs
pub mod Results
pub mod BellFree
pub mod Ranges
pub mod Counts
pub mod Steps
pub mod Standard
pub mod More
pub mod Found
