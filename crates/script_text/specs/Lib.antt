pub mod Words
pub mod Digits
pub mod Arguments
pub mod Requests
pub mod Output
pub mod ShortReplies
pub mod HistoryParts
