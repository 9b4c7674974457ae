pub mod Spelling
pub mod Places
pub mod Written
pub mod TestedValue
