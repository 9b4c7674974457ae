pub mod Rolls
pub mod Worked
