use Rattle.std.proofs.Common.{◌≡◌, ℕ, ◌*◌, ◌<◌, length, take, drop, slice_index, IfSome}
use Rattle.volume_model.specs.Format.{block}
use Rattle.sector_disk.specs.Disk.{NoneFailed}
use Rattle.meta_store.specs.Store.{IsUnchanged}
use Rattle.fsck_core.proofs.directory.read_blocks.Given as goal

-- the blocks so far stand one after the other
abbrev pub invariant-loop-k : goal.invariant-loop-k
invariant-loop-k g l = record {
  size : length l.bytes.items ≡ 4096 * l.k;
  blocks : IfSome (g.S.MetaRead.store l.initial.store).content (λ image. (j : ℕ) → j < l.k → take 4096 (drop (4096 * j) l.bytes.items) ≡ block image (slice_index l.numbers j));
  room : length l.buffer ≡ 4096;
  unchanged : IsUnchanged (g.S.MetaRead.store l.initial.store) (g.S.MetaRead.store l.store);
  none_failed : NoneFailed (g.S.MetaRead.store l.initial.store).disk (g.S.MetaRead.store l.store).disk;
}
