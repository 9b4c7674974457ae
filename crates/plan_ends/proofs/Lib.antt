pub mod RecordedTests
pub mod TreeTold
pub mod LinksMade
pub mod LinksRemoved
pub mod Timed
pub mod PlanApplies
