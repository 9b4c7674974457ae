pub mod StatReplies
pub mod ListReplies
pub mod AsItIs
