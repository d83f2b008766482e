-- That a C caller decodes what the operations answer.
pub mod Decoding
pub mod InC
pub mod Coded
