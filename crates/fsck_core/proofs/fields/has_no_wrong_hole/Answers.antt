use Rattle.std.proofs.Common.{Bool, ◌||◌, sym, ap, ◌∙◌}
use Rattle.volume_model.specs.Sound.{has_no_hole}
use Rattle.fsck_core.specs.Claimed.{used_with}
use Rattle.fsck_core.proofs.fields.has_no_wrong_hole.Goals as goal

pub returns-else-is_file : goal.returns-else-is_file
returns-else-is_file c = λ chunks.
    c.has_no_hole.ensures chunks
    ∙ ap (λ (t : Bool). t || has_no_hole (used_with c.args.d.now c.args.numbers.now chunks)) (sym c.if-is_file.false ∙ c.is_file.ensures)
