pub mod Signs
pub mod Parse
pub mod Tests
pub mod Scan
