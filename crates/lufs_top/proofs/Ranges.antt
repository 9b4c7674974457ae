-- Numbers in their ranges make a geometry.
use Rattle.std.proofs.Common.{◌≡◌, ◌≤◌, ℕ, Bool, true, false, Option, Some, None, refl, arith}
use Rattle.std.specs.Prelude.{not, if◌then◌else◌, ◌%◌}
use Rattle.std.proofs.lemmas.Bool.{and_parts, leb-true, eqb-true}
use Rattle.lufs_base.specs.Layout.{IsGeometry}
use Rattle.lufs_base.specs.Layout.{is_step}
use Rattle.lufs_top.specs.declared.numbers.VolumeNumbers.{VolumeNumbers}
use Rattle.lufs_top.specs.declared.numbers.BadNumber.{BadNumber}
use Rattle.lufs_top.specs.Numbers.{first_out_of_range, geometry_from}

passed : (test : Bool) (bad : BadNumber) (rest : Option BadNumber) → (if not test then Some bad else rest) ≡ None → (test ≡ true) × (rest ≡ None)
passed true bad rest none = (refl, none)
passed false bad rest none = let impossible : Some bad ≡ None = none in absurd (cc (impossible))

pub record IsStep (low high step n : ℕ) : Type 0 where
  pub low_enough : low ≤ n
  pub high_enough : n ≤ high
  pub multiple : n % step ≡ 0

steps : (low high step n : ℕ) → is_step low high step n ≡ true → IsStep low high step n
steps low high step n test =
    let two = and_parts _ _ test in
    let one = and_parts _ _ two.0 in
    record { low_enough = leb-true _ _ one.0; high_enough = leb-true _ _ one.1; multiple = eqb-true _ _ two.1 }

pub in_range : (n : VolumeNumbers) → first_out_of_range n ≡ None → IsGeometry (geometry_from n)
unfolding first_out_of_range
in_range n none =
    let groups = passed (is_step 1 64 1 n.groups) _ _ none in
    let bpg = passed (is_step 64 2048 8 n.bpg) _ _ groups.1 in
    let ipg = passed (is_step 32 1024 32 n.ipg) _ _ bpg.1 in
    let log = passed (is_step 256 65536 8 n.log) _ _ ipg.1 in
    let g = steps 1 64 1 n.groups groups.0 in
    let b = steps 64 2048 8 n.bpg bpg.0 in
    let i = steps 32 1024 32 n.ipg ipg.0 in
    let l = steps 256 65536 8 n.log log.0 in
    record {
      version = refl;
      groups_low = g.low_enough;
      groups_high = g.high_enough;
      bpg_low = b.low_enough;
      bpg_high = b.high_enough;
      bpg_step = b.multiple;
      ipg_low = i.low_enough;
      ipg_high = i.high_enough;
      ipg_step = i.multiple;
      log_low = l.low_enough;
      log_high = l.high_enough;
      log_step = l.multiple;
      room = let high = i.high_enough in let low = b.low_enough in omega (arith, high, low);
    }
