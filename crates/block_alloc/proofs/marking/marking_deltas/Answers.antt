use Rattle.std.proofs.Common.{◌≡◌, ◌<◌, length, List, Option, sym, subst, ◌∙◌, ◌+◌, arith}
use Rattle.std.specs.Prelude.{is_some, ◌&&◌, false, slice_get}
use Rattle.std.specs.Option.{option_flatten}
use Rattle.lufs_base.specs.declared.delta.Delta.{Delta}
use Rattle.cyl_groups.specs.declared.group.Group.{Group}
use Rattle.block_alloc.specs.Marks.{has_of_group, MarksGroup, IsMarkedDelta, AreMarkings}
use Rattle.block_alloc.proofs.Markings.{no_markings, marking_without, marking_with, read_at, found_at}
use Rattle.block_alloc.proofs.marking.marking_deltas.Goals as goal
use Rattle.block_alloc.proofs.marking.marking_deltas.Goals.{in-Some+in_ok-push, in_default}

pub loop-n-init : goal.loop-n-init
loop-n-init c =
    subst (AreMarkings c.args.g.now c.args.records.now c.args.hand.now 0) (sym c.new-deltas.ensures) (no_markings c.args.g.now c.args.records.now c.args.hand.now)

pub marked_delta-requires-clause-group : goal.marked_delta-requires-clause-group
marked_delta-requires-clause-group c =
    read_at c.args.g.now c.args.records.now c.loop-n.n c.index-records-n.result (omega (arith, c.requires.size, c.loop-n-test.true)) c.index-records-n.is c.requires.groups

pub loop-n-preserved : goal.loop-n-preserved
loop-n-preserved c =
    let g = c.args.g.now in
    let n = c.loop-n.n in
    let hand = c.args.hand.now in
    let records : List (Option Group) = c.args.records.now in
    let x : Option Group = c.index-records-n.result in
    let old : List Delta = c.loop-n.deltas in
    let within : n < g.groups = c.loop-n-test.true in
    let inside : n < length records = omega (arith, c.requires.size, c.loop-n-test.true) in
    let place : x ≡ option_flatten (slice_get records n) = found_at records n x inside c.index-records-n.is in
    let marked : IsMarkedDelta g n hand (option_flatten (slice_get records n)) c.in_ok-delta.field-0 =
    subst (λ (o : Option Group). IsMarkedDelta g n hand o c.in_ok-delta.field-0) place c.in_ok-delta.ensures in
    elim c.match-branch-2.branch [
      | in-Some+in_ok-push w ↦
          let marks : MarksGroup g n hand (option_flatten (slice_get records n)) w.in-Some.delta =
          subst (IsMarkedDelta g n hand (option_flatten (slice_get records n))) w.in-Some.is marked in
          subst (AreMarkings g records hand (n + 1)) (sym (w.deltas-is ∙ w.in_ok-push.ensures.ok))
          (marking_with g records hand n old c.requires.geometry within c.loop-n.invariant w.in-Some.delta marks)
      | in_default w ↦
          let none : (is_some (option_flatten (slice_get records n)) && has_of_group g hand n) ≡ false =
          subst (IsMarkedDelta g n hand (option_flatten (slice_get records n))) w.in_default.is marked in
          subst (AreMarkings g records hand (n + 1)) (sym w.deltas-is) (marking_without g records hand n old c.requires.geometry within c.loop-n.invariant none)
    ]
