pub mod Answers
pub mod Parts
pub mod Records
pub mod Steps
pub mod Stops
