pub mod Answers
pub mod Ring
pub mod Pieces
pub mod Summaries
