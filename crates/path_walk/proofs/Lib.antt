pub mod TreeFacts
pub mod FoundNodes
pub mod PartRefusals
pub mod LinkTexts
pub mod StepFacts
pub mod WalkSteps
pub mod PassedParts
pub mod WalksAnswered
