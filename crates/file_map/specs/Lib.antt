pub mod Answers
pub mod Mapped
pub mod Needed
pub mod Attached
pub mod Freed
pub mod Dropped
pub mod Cut
