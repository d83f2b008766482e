pub mod Cell
pub mod Stands
pub mod Chain
pub mod Stage
