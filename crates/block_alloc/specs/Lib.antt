pub mod Records
pub mod Taking
pub mod Choosing
pub mod Marks
pub mod Marking
pub mod Returning
