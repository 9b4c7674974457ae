pub mod Served
pub mod InHand
