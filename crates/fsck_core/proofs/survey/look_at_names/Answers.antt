use Rattle.std.proofs.Common.{◌≡◌, ◌<◌, ℕ, ◌+◌, ◌*◌, ◌/◌, List, take, drop, slice_index, IfSome, ◌∙◌, sym, subst}
use Rattle.volume_model.specs.Format.{block}
use Rattle.fsck_core.proofs.SurveyTold.{told_other, told_past, told_looked, some_above}
use Rattle.fsck_core.proofs.survey.look_at_names.Goals as goal

pub returns-then-not-is_directory-clause-names : goal.returns-then-not-is_directory-clause-names
returns-then-not-is_directory-clause-names g c =
    let told = g.S.MetaRead.store c.args.store.now in
    told_other told.geometry told.content c.args.inodes.now c.args.i c.args.d.now c.args.survey.now c.requires.here (sym c.is_directory.ensures ∙ c.if-not-is_directory.true)

pub returns-then-not-looks_at_names-clause-names : goal.returns-then-not-looks_at_names-clause-names
returns-then-not-looks_at_names-clause-names g c =
    let told = g.S.MetaRead.store c.args.store.now in
    told_past told.geometry told.content c.args.i c.args.survey.now (sym c.looks_at_names.ensures ∙ c.if-not-looks_at_names.true)

pub returns-clause-names : goal.returns-clause-names
returns-clause-names g c =
    let told = g.S.MetaRead.store c.args.store.now in
    let d = c.args.d.now in
    let numbers = c.args.numbers.now in
    let directory = sym c.is_directory.ensures ∙ c.if-not-is_directory.false in
    let stand = subst (λ (bytes : List ℕ). IfSome told.content (λ image.
    (k : ℕ) → k < (d.size + 4095) / 4096 → take 4096 (drop (4096 * k) bytes) ≡ block image (slice_index numbers k)))
    (sym c.deref.ensures.value) c.in_ok-bytes.ensures.bytes in
    let has = c.requires.readable directory in
    told_looked told.geometry told.content c.args.inodes.now c.args.i d numbers c.deref.result.now c.args.survey.now c.look_at_slots.new.survey
    c.requires.here c.requires.read directory (sym c.looks_at_names.ensures ∙ c.if-not-looks_at_names.false)
    (λ k below. let some = has.held k below in some_above (slice_index numbers k) some) stand c.in_ok-look_at_slots.ensures.names
