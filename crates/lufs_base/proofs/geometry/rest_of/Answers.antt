use Rattle.std.proofs.Common.{◌≡◌, ℕ, ◌-◌, ◌%◌, ◌^◌, bit_and, sym, subst, ◌∙◌}
use Rattle.std.proofs.lemmas.Nat.{and_mask}
use Rattle.lufs_base.proofs.geometry.rest_of.Goals as goal

pub returns-then-next_power_of_two-n : goal.returns-then-next_power_of_two-n
returns-then-next_power_of_two-n c =
    let at = c.args.at in
    let power = c.next_power_of_two.ensures.power in
    let is : c.args.n ≡ 2 ^ power.0 = sym c.if-next_power_of_two-n.true ∙ power.1 in
    subst (λ (m : ℕ). bit_and at (m - 1) ≡ at % m) (sym is) (and_mask at power.0)
