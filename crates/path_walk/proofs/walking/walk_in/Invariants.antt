use Rattle.std.proofs.Common.{Result}
use Rattle.sector_disk.specs.Disk.{NoneFailed}
use Rattle.tree_types.specs.declared.reply.Refusal.{Refusal}
use Rattle.meta_store.specs.Store.{IsUnchanged}
use Rattle.meta_store.specs.Changing.{IsKept}
use Rattle.meta_draft.specs.Drafted.{drafted}
use Rattle.history_model.specs.Walk.{WalkEnd, most_followed, root, parts_of}
use Rattle.history_model.specs.Walks.{Walks}
use Rattle.path_walk.specs.Answers.{HoldsOfTree}
use Rattle.path_walk.proofs.walking.walk_in.Given as goal

-- the links so far led here
abbrev pub invariant-loop-parts : goal.invariant-loop-parts
invariant-loop-parts g l = record {
  leads : HoldsOfTree (drafted l.draft.change (g.S.MetaRead.store l.fn.store)) (λ tree. (end : Result WalkEnd Refusal)
      → Walks tree l.cred l.follow l.left l.dir.0 l.parts end → Walks tree l.cred l.follow most_followed root (parts_of l.path) end);
  unchanged : IsUnchanged (g.S.MetaRead.store l.fn.store) (g.S.MetaRead.store l.store);
  kept : IsKept (g.S.MetaRead.changing l.fn.store) (g.S.MetaRead.changing l.store);
  none_failed : NoneFailed (g.S.MetaRead.store l.fn.store).disk (g.S.MetaRead.store l.store).disk;
}

abbrev pub decreases-loop-parts : goal.decreases-loop-parts
decreases-loop-parts g l = l.left
