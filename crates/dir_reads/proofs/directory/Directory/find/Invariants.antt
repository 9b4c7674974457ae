use Rattle.std.proofs.Common.{◌≡◌, ◌<◌, ℕ, false, IfSome}
use Rattle.volume_model.specs.Format.{block}
use Rattle.sector_disk.specs.Disk.{NoneFailed}
use Rattle.meta_store.specs.Store.{IsUnchanged}
use Rattle.meta_store.specs.Changing.{IsKept}
use Rattle.meta_draft.specs.Drafted.{drafted}
use Rattle.dir_reads.specs.Chunks.{AreOfBlock}
use Rattle.dir_reads.specs.Directories.{serves}
use Rattle.dir_reads.proofs.FirstChunks.{NoneBefore}
use Rattle.dir_reads.proofs.directory.Directory.find.Given as goal

-- none of the chunks so far serves
abbrev pub invariant-loop-place : goal.invariant-loop-place
invariant-loop-place g l = record {
  held : AreOfBlock (drafted l.draft.change (g.S.MetaRead.store l.store)).content l.window.number l.window.bytes;
  none : NoneBefore (serves l.wanted l.name) (drafted l.draft.change (g.S.MetaRead.store l.fn.store)).content l.self.opened.numbers.items l.place;
  unchanged : IsUnchanged (g.S.MetaRead.store l.fn.store) (g.S.MetaRead.store l.store);
  kept : IsKept (g.S.MetaRead.changing l.fn.store) (g.S.MetaRead.changing l.store);
  none_failed : NoneFailed (g.S.MetaRead.store l.fn.store).disk (g.S.MetaRead.store l.store).disk;
}
