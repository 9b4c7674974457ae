use Rattle.std.proofs.Common.{◌≡◌, sym, ◌∙◌, subst}
use Rattle.std.specs.Prelude.{IfSome}
use Rattle.volume_model.specs.Format.{block}
use Rattle.volume_model.specs.Sound.{verdict_of}
use Rattle.volume_laws.proofs.VerdictLaws.{clean_is_sound}
use Rattle.meta_store.specs.Store.{StoreTold}
use Rattle.drive_command.proofs.mount.checked.Goals as goal

pub returns-in-Ok-Clean-clause-sound : goal.returns-in-Ok-Clean-clause-sound
returns-in-Ok-Clean-clause-sound c =
    let is = subst (λ (told : StoreTold). IfSome told.content (λ image. c.in-Ok-Clean.field-0 ≡ verdict_of told.geometry (block image))) c.new-store.ensures.told c.in-Ok-Clean.ensures.verdict in
    ((clean_is_sound c.args.g.now (block c.args.content.items) c.in-Ok-Clean.field-0-0).0 (sym is ∙ c.in-Ok-Clean.field-0-is)).0

pub returns-in-Ok-Finding-clause-unsound : goal.returns-in-Ok-Finding-clause-unsound
returns-in-Ok-Finding-clause-unsound c =
    sym (subst (λ (told : StoreTold). IfSome told.content (λ image. c.in-Ok-Finding.field-0 ≡ verdict_of told.geometry (block image))) c.new-store.ensures.told c.in-Ok-Finding.ensures.verdict) ∙ c.in-Ok-Finding.field-0-is
