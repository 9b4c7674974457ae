pub mod SplitParts
pub mod LineWords
pub mod LastNames
pub mod EndsAnswered
pub mod AskedOnTrees
pub mod StoresAsked
