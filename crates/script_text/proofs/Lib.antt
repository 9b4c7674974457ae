pub mod DigitLemmas
pub mod ArgumentLemmas
pub mod RequestLemmas
pub mod ScriptLemmas
pub mod PutLemmas
pub mod LengthLemmas
