use Rattle.std.proofs.Common.{[], sym, subst}
use Rattle.lufs_base.specs.declared.geometry.Geometry.{Geometry}
use Rattle.volume_model.specs.Format.{block}
use Rattle.volume_model.specs.Sound.{StandsFor}
use Rattle.plain_calls.proofs.Kept.{without_empty}
use Rattle.plain_calls.proofs.hands.give_back.Goals as goal

pub returns-clause-stands : goal.returns-clause-stands
returns-clause-stands c tree stands =
    let back = c.in-Ok.ensures.ok in
    let now = block c.put_back.new.store.image.items in
    subst (λ (g : Geometry). StandsFor g now tree []) (sym back.geometry)
    (without_empty c.args.store.now.geometry now tree (back.stands tree [] stands))
