pub mod Fields
pub mod Layout
pub mod Causes
pub mod Name
pub mod Kinds
