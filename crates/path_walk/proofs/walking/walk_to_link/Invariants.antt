use Rattle.std.proofs.Common.{length}
use Rattle.sector_disk.specs.Disk.{NoneFailed}
use Rattle.meta_store.specs.Store.{IsUnchanged}
use Rattle.meta_store.specs.Changing.{IsKept}
use Rattle.meta_draft.specs.Drafted.{drafted}
use Rattle.path_walk.specs.Answers.{HoldsOfTree}
use Rattle.path_walk.proofs.WalkSteps.{Leads}
use Rattle.path_walk.proofs.walking.walk_to_link.Given as goal

-- the parts so far led here
abbrev pub invariant-loop-part : goal.invariant-loop-part
invariant-loop-part g l = record {
  leads : HoldsOfTree (drafted l.draft.change (g.S.MetaRead.store l.fn.store)) (λ tree. Leads tree l.cred l.follow l.fn.start.0 l.fn.parts l.dir.0 l.parts);
  unchanged : IsUnchanged (g.S.MetaRead.store l.fn.store) (g.S.MetaRead.store l.store);
  kept : IsKept (g.S.MetaRead.changing l.fn.store) (g.S.MetaRead.changing l.store);
  none_failed : NoneFailed (g.S.MetaRead.store l.fn.store).disk (g.S.MetaRead.store l.store).disk;
}

abbrev pub decreases-loop-part : goal.decreases-loop-part
decreases-loop-part g l = length l.parts
