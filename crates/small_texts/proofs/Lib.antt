pub mod Spelled
pub mod Ordered
pub mod Each
pub mod Normal
pub mod HowMany
pub mod Choosing
pub mod Letters
pub mod Indexed
