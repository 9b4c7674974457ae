use Rattle.std.proofs.Common.{ℕ, Option, Ok, Vec, Global, refl, sym, ap, ◌∙◌, arith}
use Rattle.std.proofs.lemmas.Iterator.{YieldsList-from_range, items_from_collect}
use Rattle.std.specs.Option.{option_map}
use Rattle.std.specs.declared.alloc.AllocError.{AllocError}
use Rattle.fsck_core.specs.StepsUp.{far_from}
use Rattle.fsck_core.proofs.parents.ended.Goals as goal

pub returns-in_ok-collect-in-None : goal.returns-in_ok-collect-in-None
returns-in_ok-collect-in-None c =
    let n = c.args.count in
    items_from_collect {E = AllocError} (Ok c.in_ok-collect-in-None.field-0) c.in_ok-collect-in-None.ensures.ran (YieldsList-from_range 0 n n refl (omega arith))
    ∙ sym (ap (λ (o : Option (Vec ℕ Global)). far_from n (option_map (λ f. f.items) o)) c.in-None.is)
