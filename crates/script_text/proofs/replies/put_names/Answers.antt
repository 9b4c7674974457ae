use Rattle.std.proofs.Common.{◌≤◌, ℕ, ◌∷◌, length, subst}
use Rattle.std.specs.Fmt.{decimal}
use Rattle.script_text.proofs.LengthLemmas.{names_are_short}
use Rattle.script_text.proofs.replies.put_names.Goals as goal

pub returns-clause-short : goal.returns-clause-short
returns-clause-short g c = λ short.
    names_are_short c.args.names.now c.args.more (subst (λ (n : ℕ). length (32 ∷ decimal n) ≤ 21) c.len.ensures c.put_spaced.ensures.short) short
