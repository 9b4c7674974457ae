use Rattle.std.proofs.Common.{subst}
use Rattle.lufs_base.specs.declared.geometry.Geometry.{Geometry}
use Rattle.meta_store.specs.Changing.{all_told}
use Rattle.block_alloc.specs.Marks.{IsMarking}
use Rattle.block_alloc.proofs.TakenHand.{ready, may_take, has_taken}
use Rattle.block_alloc.proofs.taking.take_hand.Goals as goal

pub apply-requires : goal.apply-requires
apply-requires g c =
    let s = c.args.store.now in
    let told = g.S.MetaRead.store s in
    record {
      may = may_take (all_told told (g.S.MetaRead.changing s)) c.args.records.now c.args.hand.now c.in_ok-change.change c.geometry.ensures.in_range c.requires.chosen
          (subst (λ (h : Geometry). IsMarking h c.args.records.now c.args.hand.now c.in_ok-change.change) c.geometry.ensures.value c.in_ok-change.ensures) c.requires.room
          (ready told.geometry c.args.records.now told.content (g.met.S.MetaRead.size s) c.requires.records c.requires.stands);
    }

pub returns-clause-takes : goal.returns-clause-takes
returns-clause-takes g c =
    let s = c.args.store.now in
    let told = g.S.MetaRead.store s in
    let new = c.apply.new.self in
    has_taken (all_told told (g.S.MetaRead.changing s)) (all_told (g.S.MetaRead.store new) (g.S.MetaRead.changing new)) c.args.records.now c.args.hand.now c.in_ok-change.change
    c.geometry.ensures.in_range c.requires.chosen
    (subst (λ (h : Geometry). IsMarking h c.args.records.now c.args.hand.now c.in_ok-change.change) c.geometry.ensures.value c.in_ok-change.ensures) (g.met.S.MetaStore.loggable s)
    (ready told.geometry c.args.records.now told.content (g.met.S.MetaRead.size s) c.requires.records c.requires.stands) c.in_ok-apply.ensures.ok
