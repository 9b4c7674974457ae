pub mod Edits
pub mod Growth
pub mod Opened
pub mod Slots
