use Rattle.std.proofs.Common.{sym, subst}
use Rattle.meta_store.specs.declared.change.Change.{Change}
use Rattle.meta_store.specs.Changing.{all_told}
use Rattle.meta_store.specs.Conditions.{MayApply}
use Rattle.meta_store.proofs.NothingApplied.{nothing_applied}
use Rattle.meta_store.proofs.tests.apply_nothing.Goals as goal

pub apply-requires : goal.apply-requires
apply-requires g c =
    let store = c.args.store.now in
    let told = all_told (g.S.MetaRead.store store) (g.S.MetaRead.changing store) in
    record { may = subst (λ (change : Change). MayApply change told) (sym c.new.ensures) (nothing_applied told) }
