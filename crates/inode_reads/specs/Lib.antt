pub mod Answers
pub mod InodeOf
