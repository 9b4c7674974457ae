pub mod ByTree
pub mod ReadSizes
pub mod ReadInodes
