pub mod PutAll
pub mod Back
