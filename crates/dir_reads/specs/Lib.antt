pub mod Answers
pub mod Chunks
pub mod Directories
pub mod Names
pub mod Rooms
