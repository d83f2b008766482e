-- The laws that the code's proofs cite, and what a line's fault says of the definition.
pub mod Terms
pub mod TextLine
