pub mod BodyHomes
pub mod InOrder
pub mod Heads
pub mod Answers
pub mod RunReading
pub mod Loggable
