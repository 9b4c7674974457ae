pub mod ServedLines
pub mod Sessions
