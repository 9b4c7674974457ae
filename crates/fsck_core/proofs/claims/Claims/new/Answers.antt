use Rattle.std.proofs.Common.{◌≡◌, ℕ, ◌+◌, ◌/◌, replicate, length, slice_index, inl, inr, refl, ap, ◌∙◌, arith}
use Rattle.std.proofs.lemmas.Bool.{cases_lt}
use Rattle.std.proofs.lemmas.List.{get_or-replicate, get_or_past, length-replicate}
use Rattle.fsck_core.proofs.ClaimSteps.{claimed_none}
use Rattle.fsck_core.proofs.claims.Claims.new.Goals as goal

zeros : (n i : ℕ) → slice_index (replicate n 0) i ≡ 0
zeros n i = elim (cases_lt i n) [
  | inl below ↦ get_or-replicate n i 0 0 below
  | inr past ↦ get_or_past (replicate n 0) i 0 (omega (arith, length-replicate {A = ℕ} n 0))
]

pub returns : goal.returns
returns c =
    let total = c.args.total in
    let bits = c.in_ok-vec.field-0.items in
    let items : bits ≡ replicate (total / 8 + 1) 0 = c.in_ok-vec.ensures.items_if_clones_equal (λ y same. same) in
    let size : length bits ≡ total / 8 + 1 = ap length items ∙ length-replicate {A = ℕ} (total / 8 + 1) 0 in
    claimed_none total _ (omega (arith, size)) (λ i. ap (λ l. slice_index l i) items ∙ zeros (total / 8 + 1) i) refl refl
