pub mod ChangedSlots
pub mod RightSlots
pub mod ReadSlots
pub mod WrittenSlots
