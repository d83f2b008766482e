pub mod Mix
pub mod PutAll
