use Rattle.std.proofs.Common.{◌/◌, inl, Bool, ◌||◌, sym, ap, ◌∙◌}
use Rattle.meta_store.specs.Suited.{suits_block}
use Rattle.draft_laws.proofs.SuitedBeside.{suited_beside}
use Rattle.draft_laws.proofs.laying.suited_beside.Goals as goal

pub returns : goal.returns
returns c g r d older laid fitting lays its older_lays =
    suited_beside g r d older laid (ap (λ (t : Bool). t || suits_block g r d.kind (d.home / 4096)) (sym lays) ∙ fitting)
    (inl (ap (λ (t : Bool). t || suits_block g r older.kind (older.home / 4096)) (sym older_lays) ∙ its))
