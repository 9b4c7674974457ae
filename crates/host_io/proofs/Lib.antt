pub mod NamedLemmas
pub mod HostTold
pub mod PartRead
