use Rattle.std.proofs.Common.{map}
use Rattle.fsck_core.specs.Slots.{slot_of, chunks_in}
use Rattle.fsck_core.proofs.DirectoryChunks.{AreChunks}
use Rattle.fsck_core.proofs.directory.entries_in.Given as goal

-- all so far were chunks, and their slots are there
abbrev pub invariant-loop-k : goal.invariant-loop-k
invariant-loop-k l = AreChunks (chunks_in l.bytes l.k) (map slot_of l.entries.items)
