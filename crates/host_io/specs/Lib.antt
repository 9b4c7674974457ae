pub mod Places
pub mod Source
pub mod Outside
pub mod MemSink
pub mod MemSource
pub mod Named
pub mod MemHost
