use Rattle.std.proofs.Common.{◌==◌, ◌||◌, Bool, slice_index, sym, ap, ◌∙◌, arith}
use Rattle.std.proofs.lemmas.Bool.{ne_eqb}
use Rattle.lufs_base.specs.declared.geometry.Geometry.{Geometry}
use Rattle.volume_model.specs.Format.{is_body}
use Rattle.fsck_core.proofs.SurveyTold.{told_pointer_wrong}
use Rattle.fsck_core.proofs.WithZeros.{told_direct}
use Rattle.fsck_core.proofs.survey.look_at.Goals as goal

pub returns-then-not-is_body-clause-part : goal.returns-then-not-is_body-clause-part
returns-then-not-is_body-clause-part g c =
    let told = g.S.MetaRead.store c.args.store.now in
    let d = c.args.d.now in
    told_pointer_wrong told.geometry told.content c.args.inodes.now c.args.i d c.args.survey.now c.requires.here
    (ap (λ (k : Geometry). slice_index d.indirect 0 == 0 || is_body k (slice_index d.indirect 0)) (sym c.geometry.ensures.value)
    ∙ ap (λ (t : Bool). t || is_body c.geometry.result.now (slice_index d.indirect 0)) (ne_eqb (slice_index d.indirect 0) 0 c.if-d-eq0.false)
    ∙ sym c.is_body.ensures ∙ c.if-not-is_body.true)

pub look_at_numbers-requires-clause-read : goal.look_at_numbers-requires-clause-read
look_at_numbers-requires-clause-read g c =
    told_direct (g.S.MetaRead.store c.args.store.now).content c.args.d.now (omega (arith, c.type_inv.d)) c.if-d-eq0.true
