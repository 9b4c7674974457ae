use Rattle.std.proofs.Common.{◌≡◌, ◌==◌, ◌&&◌, [], Bool, false, true, not, slice_index, sym, ap, ◌∙◌}
use Rattle.std.proofs.lemmas.Bool.{eq-eqb}
use Rattle.volume_model.specs.Format.{is_directory}
use Rattle.volume_model.specs.Sound.{has_right_fields}
use Rattle.fsck_core.specs.Claimed.{used_with}
use Rattle.fsck_core.proofs.inodes.is_settled.Goals as goal

pub returns-clause-value : goal.returns-clause-value
returns-clause-value c =
    let d = c.args.d.now in
    let right = has_right_fields c.args.g.now 0 (used_with d d.direct []) in
    let other : is_directory d.mode ≡ false = sym c.is_directory.ensures ∙ c.if-is_directory.false in
    let none : (slice_index d.indirect 0 == 0) ≡ true = eq-eqb (slice_index d.indirect 0) 0 c.if-d-ne0.false in
    c.has_right_fields.ensures.value 0 []
    ∙ ap (λ (b : Bool). b && right) (sym none)
    ∙ ap (λ (b : Bool). not b && ((slice_index d.indirect 0 == 0) && right)) (sym other)
