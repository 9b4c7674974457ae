use Rattle.std.proofs.Common.{◌≡◌, ◌≤◌, [], refl, sym, subst, arith}
use Rattle.lufs_base.specs.Layout.{need_of}
use Rattle.lufs_base.specs.declared.geometry.Geometry.{Geometry}
use Rattle.volume_model.specs.Log.{delta_bytes}
use Rattle.tree_types.specs.declared.reply.Reply.TheVariants as reply
use Rattle.meta_store.specs.declared.change.Change.{Change}
use Rattle.meta_store.specs.Changing.{all_told}
use Rattle.meta_store.specs.Conditions.{MayApply}
use Rattle.meta_store.specs.NoChange.{no_change}
use Rattle.draft_laws.specs.Drafts.{IsRecorded}
use Rattle.plan_ends.proofs.PlanApplies.{nothing_recorded, may_apply}
use Rattle.path_walk.specs.Answers.{end_of}
use Rattle.name_ops.specs.declared.wanted.Wanted.{Wanted}
use Rattle.name_ops.proofs.PlannedStores.{AnswersOf, Planned, told_refused, told_nothing, told_done, told_tight, moved_drawn, room_for}
use Rattle.name_ops.proofs.MadeDirectoryStores.{making_directory, mkdir_makes}
use Rattle.name_ops.proofs.mkdir.plan_mkdir.Goals as goal

pub returns-in-Refused-clause-planned : goal.returns-in-Refused-clause-planned
returns-in-Refused-clause-planned g c =
    let told = all_told (g.S.MetaRead.store c.args.store.now) (g.S.MetaRead.changing c.args.store.now) in
    let p = end_of c.args.walked.now in
    subst (λ (change : Change). Planned told.read.content told c.args.cred.now (making_directory c.args.mode) c.args.moment p c.args.held.now c.args.hand.now change (reply.Refused c.in-Refused.why)) (sym c.new.ensures)
    (told_refused c.args.cred.now (making_directory c.args.mode) p (mkdir_makes c.args.cred.now c.args.mode p) told.read.content told c.args.moment c.args.held.now c.args.hand.now c.in-Refused.why c.geometry.ensures.in_range (g.met.S.MetaRead.size c.args.store.now)
    (subst (λ (wanted : Wanted). AnswersOf told.read.content told.read.geometry c.args.cred.now (making_directory c.args.mode) p c.args.held.now wanted) c.in-Refused.is (λ tree path. c.in_ok-why.ensures.answer tree path c.args.mode)))

pub returns-in-Refused-clause-applies : goal.returns-in-Refused-clause-applies
returns-in-Refused-clause-applies g c =
    let told = all_told (g.S.MetaRead.store c.args.store.now) (g.S.MetaRead.changing c.args.store.now) in
    let p = end_of c.args.walked.now in
    let less : delta_bytes [] ≤ need_of told.read.geometry = omega arith in
    subst (λ (change : Change). MayApply change told) (sym c.new.ensures)
    (may_apply no_change told refl (nothing_recorded told.read.geometry) (room_for told.changing.room (delta_bytes []) (need_of told.read.geometry) less c.requires.room)
    (told_nothing c.args.cred.now (making_directory c.args.mode) p (mkdir_makes c.args.cred.now c.args.mode p) told.read.content told c.args.held.now c.args.hand.now c.geometry.ensures.in_range (g.met.S.MetaRead.size c.args.store.now) c.requires.may))

pub returns-clause-planned : goal.returns-clause-planned
returns-clause-planned g c =
    let told = all_told (g.S.MetaRead.store c.args.store.now) (g.S.MetaRead.changing c.args.store.now) in
    let now = all_told (g.S.MetaRead.store c.wants_mkdir.new.store) (g.S.MetaRead.changing c.wants_mkdir.new.store) in
    let p = end_of c.args.walked.now in
    let change = c.in_ok-draft.draft.change in
    let same = c.in_ok-why.ensures.unchanged in
    let asks = subst (λ (wanted : Wanted). AnswersOf told.read.content told.read.geometry c.args.cred.now (making_directory c.args.mode) p c.args.held.now wanted) c.in_default.is (λ tree path. c.in_ok-why.ensures.answer tree path c.args.mode) in
    let draws = moved_drawn told.read.content told now c.args.cred.now (making_directory c.args.mode) c.args.moment p c.args.hand.now change same.content same.geometry c.in_ok-why.ensures.kept.taken c.in_ok-draft.ensures.drawn in
    told_done c.args.cred.now (making_directory c.args.mode) p (mkdir_makes c.args.cred.now c.args.mode p) c.in_default.field-0 c.in_default.field-1 c.in_default.field-2 change c.finished.result told.read.content told c.args.moment c.args.held.now c.args.hand.now
    c.geometry.ensures.in_range (g.met.S.MetaRead.size c.args.store.now) asks draws
    (subst (λ (h : Geometry). IsRecorded h change → c.finished.result ≡ change) c.geometry.ensures.value c.finished.ensures.whole)

pub returns-clause-applies : goal.returns-clause-applies
returns-clause-applies g c =
    let told = all_told (g.S.MetaRead.store c.args.store.now) (g.S.MetaRead.changing c.args.store.now) in
    let now = all_told (g.S.MetaRead.store c.wants_mkdir.new.store) (g.S.MetaRead.changing c.wants_mkdir.new.store) in
    let p = end_of c.args.walked.now in
    let change = c.in_ok-draft.draft.change in
    let same = c.in_ok-why.ensures.unchanged in
    let asks = subst (λ (wanted : Wanted). AnswersOf told.read.content told.read.geometry c.args.cred.now (making_directory c.args.mode) p c.args.held.now wanted) c.in_default.is (λ tree path. c.in_ok-why.ensures.answer tree path c.args.mode) in
    let draws = moved_drawn told.read.content told now c.args.cred.now (making_directory c.args.mode) c.args.moment p c.args.hand.now change same.content same.geometry c.in_ok-why.ensures.kept.taken c.in_ok-draft.ensures.drawn in
    let less : delta_bytes c.finished.result.deltas ≤ need_of told.read.geometry = omega (arith, c.finished.ensures.size, c.in_ok-draft.ensures.growth) in
    may_apply c.finished.result told (c.finished.ensures.deltas c.in_ok-draft.ensures.deltas).taken
    (subst (λ (h : Geometry). IsRecorded h c.finished.result) c.geometry.ensures.value c.finished.ensures.recorded)
    (room_for told.changing.room (delta_bytes c.finished.result.deltas) (need_of told.read.geometry) less c.requires.room)
    (told_tight c.args.cred.now (making_directory c.args.mode) p (mkdir_makes c.args.cred.now c.args.mode p) c.in_default.field-0 c.in_default.field-1 c.in_default.field-2 change c.finished.result told.read.content told c.args.moment c.args.held.now c.args.hand.now
    c.geometry.ensures.in_range (g.met.S.MetaRead.size c.args.store.now) asks draws
    (subst (λ (h : Geometry). IsRecorded h change → c.finished.result ≡ change) c.geometry.ensures.value c.finished.ensures.whole) c.requires.may)
