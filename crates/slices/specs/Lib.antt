pub mod Find
pub mod Part
pub mod Put
pub mod Same
pub mod Wrote
pub mod Split
pub mod Numeral
