use Rattle.std.proofs.Common.{◌≡◌, ◌-◌, ◌*◌, ℕ, List, length, drop, replicate, sym, ap, ◌∙◌, arith, length-drop}
use Rattle.std.proofs.lemmas.List.{drop_all, take_rest}
use Rattle.lufs_base.specs.Fields.{are_zeros}
use Rattle.fsck_core.proofs.WithZeros.{zeros_are_replicate}
use Rattle.fsck_core.proofs.numbers.pointers_held.Goals as goal

pub returns-then-are_zeros-clause-rest : goal.returns-then-are_zeros-clause-rest
returns-then-are_zeros-clause-rest c =
    let rest : List ℕ = drop (4 * c.pointers_below-count.result) c.args.bytes.now in
    let size : length rest ≡ 4096 - 4 * c.pointers_below-count.result = omega (arith, length-drop (4 * c.pointers_below-count.result) c.args.bytes.now, c.requires) in
    zeros_are_replicate rest (ap are_zeros (sym (take_rest c.args.bytes.now (4 * c.pointers_below-count.result))) ∙ sym c.are_zeros.ensures ∙ c.if-are_zeros.true) ∙ ap (λ (n : ℕ). replicate n 0) size

pub returns-else-are_zeros-clause-rest : goal.returns-else-are_zeros-clause-rest
returns-else-are_zeros-clause-rest c = drop_all 4096 c.args.bytes.now (omega (arith, c.requires))
