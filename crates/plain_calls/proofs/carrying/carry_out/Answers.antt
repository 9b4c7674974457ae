use Rattle.std.proofs.Common.{List, [], sym, subst}
use Rattle.volume_model.specs.declared.hand.Hand.{Hand}
use Rattle.history_model.specs.Ends.{One}
use Rattle.meta_store.specs.Store.{plain_told}
use Rattle.meta_store.specs.Changing.{AllTold, all_told}
use Rattle.meta_store.specs.Plain.{plain_changing}
use Rattle.meta_store.specs.Conditions.{MayApply}
use Rattle.plan_ends.specs.Planned.{MayPlan}
use Rattle.path_walk.specs.Answers.{end_of}
use Rattle.plain_calls.proofs.Applied.{told_same}
use Rattle.plain_calls.proofs.Carried.{may_plan, carried_stands}
use Rattle.plain_calls.proofs.carrying.carry_out.Goals as goal

pub plan-requires-clause-may : goal.plan-requires-clause-may
plan-requires-clause-may c =
    let s = c.args.store.now in
    let changing = plain_changing s.geometry s.image.items s.held.items s.taken.items s.freed.items in
    let has = c.requires.hand in
    let hand = c.args.hand.now in
    let tree = has.0 in
    let may : MayPlan (all_told (plain_told s.geometry s.image.items) changing) s.image.items tree c.args.cred.now c.args.call.now (One (end_of c.args.walked.now)) c.in_ok-held.held hand [] =
    subst (λ (l : List Hand). MayPlan (all_told (plain_told s.geometry s.image.items) changing) s.image.items tree c.args.cred.now c.args.call.now (One (end_of c.args.walked.now)) l hand []) (sym c.in_ok-held.ensures)
    (may_plan s.geometry s.image.items changing tree c.args.cred.now c.args.call.now c.args.walked.now has.1 has.2 hand has.3 has.4) in
    (tree, [], may)

pub apply-requires : goal.apply-requires
apply-requires c =
    let s = c.args.store.now in
    let mid = c.plan.new.store in
    let same = told_same s.geometry mid.geometry s.image.items mid.image.items (plain_changing s.geometry s.image.items s.held.items s.taken.items s.freed.items)
    (plain_changing mid.geometry mid.image.items mid.held.items mid.taken.items mid.freed.items) (record { read = c.in_ok-change.ensures.unchanged; changing = c.in_ok-change.ensures.kept }) in
    record { may = subst (λ (told : AllTold). MayApply c.in_ok-change.change told) (sym same) c.in_ok-change.ensures.applies }

pub returns-clause-done : goal.returns-clause-done
returns-clause-done c tree inode blocks wanting has =
    let s = c.args.store.now in
    let mid = c.plan.new.store in
    let now = c.apply.new.self in
    let hand = c.args.hand.now in
    let changing = plain_changing s.geometry s.image.items s.held.items s.taken.items s.freed.items in
    let may : MayPlan (all_told (plain_told s.geometry s.image.items) changing) s.image.items tree c.args.cred.now c.args.call.now (One (end_of c.args.walked.now)) c.in_ok-held.held hand [] =
    subst (λ (l : List Hand). MayPlan (all_told (plain_told s.geometry s.image.items) changing) s.image.items tree c.args.cred.now c.args.call.now (One (end_of c.args.walked.now)) l hand []) (sym c.in_ok-held.ensures)
    (may_plan s.geometry s.image.items changing tree c.args.cred.now c.args.call.now c.args.walked.now inode blocks hand wanting has) in
    let planned = c.in_ok-change.ensures.planned tree [] may in (
      planned.replied,
      carried_stands s.geometry s.image.items changing tree c.args.cred.now c.args.call.now c.args.walked.now inode blocks hand wanting has mid.image.items now.image.items mid.geometry now.geometry
          (plain_changing mid.geometry mid.image.items mid.held.items mid.taken.items mid.freed.items) (plain_changing now.geometry now.image.items now.held.items now.taken.items now.freed.items)
          c.args.moment c.in_ok-change.change c.in_ok-change.reply c.requires.geometry planned c.in_ok-change.ensures.applies
          (record { read = c.in_ok-change.ensures.unchanged; changing = c.in_ok-change.ensures.kept }) c.in_ok-apply.ensures.ok,
    )
