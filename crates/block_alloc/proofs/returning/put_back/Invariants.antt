use Rattle.std.proofs.Common.{drop}
use Rattle.sector_disk.specs.Disk.{NoneFailed}
use Rattle.meta_store.specs.Changing.{all_told}
use Rattle.block_alloc.specs.Marking.{IsHeldHand, HasPutBack}
use Rattle.block_alloc.proofs.HeldParts.{with_blocks}
use Rattle.block_alloc.proofs.returning.put_back.Given as goal

-- the blocks so far are put back, and the others are held
abbrev pub invariant-loop-b : goal.invariant-loop-b
invariant-loop-b g l = record {
  back : HasPutBack l.hand (with_blocks l.hand.inode (drop l.b-index l.b-items)) (all_told (g.S.MetaRead.store l.fn.store) (g.S.MetaRead.changing l.fn.store))
      (all_told (g.S.MetaRead.store l.store) (g.S.MetaRead.changing l.store));
  held : IsHeldHand (with_blocks l.hand.inode (drop l.b-index l.b-items)) (all_told (g.S.MetaRead.store l.store) (g.S.MetaRead.changing l.store));
  none_failed : NoneFailed (g.S.MetaRead.store l.fn.store).disk (g.S.MetaRead.store l.store).disk;
}
