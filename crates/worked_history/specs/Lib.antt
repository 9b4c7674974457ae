pub mod Trees
pub mod Histories
pub mod Images
