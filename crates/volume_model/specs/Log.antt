-- What the log means: its header, its transactions, and what a replay of them gives.
pub mod LogHeader
pub mod LogTrailer
pub mod LogRecord
pub mod LogTx
pub mod LogRun
pub mod Ring
pub mod Recovered
pub use LogHeader.{MayBeHeader}
unfoldable pub use LogHeader.{named_header, is_header, header_of, header_bytes}
unfoldable pub use LogTrailer.{trailer_of, trailer_bytes}
unfoldable pub use LogRecord.{type_of, commit_type, all_kinds, kind_of, logged_len, delta_bytes, is_home_of, is_part_of_block, may_be_logged, may_precede}
pub use Rattle.lufs_base.specs.Kinds.{is_zero_block, is_cancel}
pub use LogTx.{AreLoggable}
unfoldable pub use LogTx.{sectors_for, tx_sectors, Fits, record_head, delta_record, commit_record, records_of, tx_payload, carrying, tx_row, tx_bytes}
pub use LogRun.{Run, Whole, Short, Bad, Front, Logged, Commit, Cut, Wrong}
unfoldable pub use LogRun.{front_delta, is_commit, is_delta, front_of_kind, front_of, run_at, run_after, run_of}
pub use Ring.{Transactions, Listed, BadRun, Log, NoHeader, WithHeader}
unfoldable pub use Ring.{belongs_to, row_of, payload_of, with_tx, transactions_at, transactions_from, ring_from, log_after, log_with, log_of}
unfoldable pub use Recovered.{lays_on, cancels, live_deltas, byte_of, given_at, recovered_byte, replayed, recovered_by, recovered, IsElsewhere, IsUncovered}
