-- What a crash may leave of a disk.
pub mod Records
pub mod Outcomes
pub mod Moments
pub use Records.{Record, IsOfSectors}
unfoldable pub use Records.{with_call, up_to, with_calls, IsInside}
pub use Outcomes.{Outcome, IsPartlyWritten}
unfoldable pub use Outcomes.{image_after, present_of, is_flush, flushed, pending, IsSettled, record_from, written_by, written_to, kept_at, written_since}
unfoldable pub use Moments.{record_since, AtEachMoment}
