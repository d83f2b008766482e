pub mod Calls
pub mod Passing
pub mod Stops
pub mod Lending
pub mod Moving
pub mod Loop
pub mod Ending
pub mod RunOf
