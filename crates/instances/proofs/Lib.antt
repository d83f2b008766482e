-- The laws that the code's proofs cite, here and in `checking`.
pub mod Behind
pub mod TextInstance
