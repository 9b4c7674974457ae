use Rattle.std.proofs.Common.{◌≤◌}
use Rattle.std.specs.Option.{option_map}
use Rattle.sector_disk.specs.Disk.{NoneFailed}
use Rattle.meta_store.specs.Store.{IsUnchanged}
use Rattle.meta_store.specs.Changing.{IsKept}
use Rattle.meta_draft.specs.Drafted.{drafted}
use Rattle.dir_reads.specs.Chunks.{AreOfBlock}
use Rattle.dir_reads.proofs.NamesInOrder.{FirstFrom}
use Rattle.dir_reads.proofs.listing.first_among.Given as goal

-- the first names of the chunks from this one on
abbrev pub invariant-loop-k : goal.invariant-loop-k
invariant-loop-k g l = record {
  within : l.k ≤ l.directory.count;
  held : AreOfBlock (drafted l.draft.change (g.S.MetaRead.store l.store)).content l.window.number l.window.bytes;
  names : FirstFrom (drafted l.draft.change (g.S.MetaRead.store l.fn.store)).content l.directory.numbers.items l.directory.count l.k (option_map (λ n. n.now) l.after) l.most l.names.items;
  unchanged : IsUnchanged (g.S.MetaRead.store l.fn.store) (g.S.MetaRead.store l.store);
  kept : IsKept (g.S.MetaRead.changing l.fn.store) (g.S.MetaRead.changing l.store);
  none_failed : NoneFailed (g.S.MetaRead.store l.fn.store).disk (g.S.MetaRead.store l.store).disk;
}

abbrev pub decreases-loop-k : goal.decreases-loop-k
decreases-loop-k g l = l.k
