use Rattle.std.proofs.Common.{List, is_some}
use Rattle.std.specs.List.{list_any}
use Rattle.volume_model.specs.declared.directory.Slot.{Slot}
use Rattle.volume_model.specs.Format.{room_in}
use Rattle.sector_disk.specs.Disk.{NoneFailed}
use Rattle.meta_store.specs.Store.{IsUnchanged}
use Rattle.meta_store.specs.Changing.{IsKept}
use Rattle.meta_draft.specs.Drafted.{drafted}
use Rattle.dir_reads.specs.Chunks.{AreOfBlock}
use Rattle.dir_reads.proofs.ChunksTold.{SaysFrom}
use Rattle.dir_reads.proofs.space.has_chunk_with_room.Given as goal

-- none of the chunks so far has room
abbrev pub invariant-loop-k : goal.invariant-loop-k
invariant-loop-k g l = record {
  held : AreOfBlock (drafted l.draft.change (g.S.MetaRead.store l.store)).content l.window.number l.window.bytes;
  says : SaysFrom (list_any (λ (chunk : List Slot). is_some (room_in chunk l.name))) (drafted l.draft.change (g.S.MetaRead.store l.fn.store)).content l.directory.numbers.items l.directory.count l.k;
  unchanged : IsUnchanged (g.S.MetaRead.store l.fn.store) (g.S.MetaRead.store l.store);
  kept : IsKept (g.S.MetaRead.changing l.fn.store) (g.S.MetaRead.changing l.store);
  none_failed : NoneFailed (g.S.MetaRead.store l.fn.store).disk (g.S.MetaRead.store l.store).disk;
}
