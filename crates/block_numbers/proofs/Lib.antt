pub mod ReadNumbers
pub mod RightNumbers
