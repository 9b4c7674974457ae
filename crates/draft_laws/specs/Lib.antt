pub mod Laying
pub mod Follows
pub mod Drafts
pub mod Freeing
