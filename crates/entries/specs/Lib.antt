pub mod Catalogue
pub mod Store
pub mod Entering
pub mod EntersAs
pub mod Calls
