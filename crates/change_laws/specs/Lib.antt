pub mod Hands
pub mod Exchange
pub mod Marks
pub mod Plans
pub mod Worked
