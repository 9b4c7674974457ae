pub mod Made
pub mod Used
