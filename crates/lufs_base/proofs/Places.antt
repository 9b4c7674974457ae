-- A block of the volume lies in its region, and in no other.
use Rattle.std.proofs.Common.{◌≡◌, ℕ, ◌+◌, ◌-◌, ◌*◌, ◌/◌, ◌%◌, ◌<◌, ◌≤◌, inl, inr, subst, sym, ◌∙◌, ap, arith}
use Rattle.std.proofs.lemmas.Nat.{div-mul-add, mod-mul-add}
use Rattle.std.proofs.Math.Nat.{div-add-mod', mod-lt, mul-le-mul_right}
use Rattle.std.proofs.lemmas.Bool.{cases_lt}
use Rattle.std.proofs.lemmas.Bool.Decides.{nat_tests}
use Rattle.lufs_base.specs.declared.geometry.Geometry.{Geometry}
use Rattle.lufs_base.specs.declared.geometry.Region.{Region}
use Rattle.lufs_base.specs.declared.geometry.Region.TheVariants.{Boot, Super, Log, GroupBlock, Inodes, Body}
use Rattle.lufs_base.specs.Layout.{IsGeometry, group_start, region_in, region_of, blocks_of, InRegion}

-- a block past the log has the region of its place in its group
pub behind_log : (g : Geometry) (b n place : ℕ) → b ≡ group_start g n + place → place < g.bpg → region_of g b ≡ region_in g n place
behind_log g b n place is below =
    let away : b - (3 + g.log / 8) ≡ n * g.bpg + place = omega arith in
    let group : (b - (3 + g.log / 8)) / g.bpg ≡ n = ap (λ (k : ℕ). k / g.bpg) away ∙ div-mul-add n g.bpg place below in
    let rest : (b - (3 + g.log / 8)) % g.bpg ≡ place = ap (λ (k : ℕ). k % g.bpg) away ∙ mod-mul-add n g.bpg place below in
    let tests : region_of g b ≡ region_in g ((b - (3 + g.log / 8)) / g.bpg) ((b - (3 + g.log / 8)) % g.bpg) = grind (arith, nat_tests) in
    tests ∙ ap (λ (k : ℕ). region_in g k ((b - (3 + g.log / 8)) % g.bpg)) group ∙ ap (λ (k : ℕ). region_in g n k) rest

pub only_region : (g : Geometry) (b : ℕ) (r : Region) → IsGeometry g → InRegion g b r → r ≡ region_of g b
only_region g b Boot ok lies = grind (arith, nat_tests)
only_region g b Super ok lies = grind (arith, nat_tests)
only_region g b Log ok lies = grind (arith, nat_tests)
only_region g b (GroupBlock n) ok lies = sym (behind_log g b n 0 (omega arith) (omega (arith, ok.bpg_low)))
only_region g b (Inodes n) ok lies =
    let place = b - group_start g n in
    let found = behind_log g b n place (omega arith) (omega (arith, ok.room)) in
    let test : region_in g n place ≡ Inodes n = grind (arith, nat_tests) in
    sym (found ∙ test)
only_region g b (Body n) ok lies =
    let place = b - group_start g n in
    let next : group_start g (n + 1) ≡ group_start g n + g.bpg = omega arith in
    let found = behind_log g b n place (omega arith) (omega arith) in
    let test : region_in g n place ≡ Body n = grind (arith, nat_tests) in
    sym (found ∙ test)

pub one_region_of : (g : Geometry) (b : ℕ) (r s : Region) → IsGeometry g → InRegion g b r → InRegion g b s → r ≡ s
one_region_of g b r s ok first second = only_region g b r ok first ∙ sym (only_region g b s ok second)

-- a block past the log lies in the region of its place in its group
lies_in_group : (g : Geometry) (b n place : ℕ) → IsGeometry g → n < g.groups → b ≡ group_start g n + place → place < g.bpg → InRegion g b (region_in g n place)
lies_in_group g b n place ok within is below =
    let next : group_start g (n + 1) ≡ group_start g n + g.bpg = omega arith in
    grind (arith, nat_tests)

-- a group that begins before the end of all groups is one of them
group_within : (n groups bpg : ℕ) → n * bpg < groups * bpg → n < groups
group_within n groups bpg before = elim (cases_lt n groups) [
  | inl less ↦ less
  | inr more ↦ let past : groups * bpg ≤ n * bpg = mul-le-mul_right bpg more in absurd (omega (arith, past, before))
]

-- each group ends in the volume
pub group_fits : (g : Geometry) (n : ℕ) → n < g.groups → group_start g n + g.bpg ≤ blocks_of g
group_fits g n within =
    let next : n + 1 ≤ g.groups = omega arith in
    let fits : (n + 1) * g.bpg ≤ g.groups * g.bpg = mul-le-mul_right g.bpg next in
    omega (arith, fits)

-- a block before the groups lies in its region
lies_before_groups : (g : Geometry) (b : ℕ) → b < group_start g 0 → InRegion g b (region_of g b)
lies_before_groups g b before = grind (arith, nat_tests)

-- a block of the volume lies in its region
pub lies_in_region : (g : Geometry) (b : ℕ) → IsGeometry g → b < blocks_of g → InRegion g b (region_of g b)
lies_in_region g b ok inside = elim (cases_lt b (group_start g 0)) [
  | inl before ↦ lies_before_groups g b before
  | inr behind ↦
      let away = b - (3 + g.log / 8) in
      let n = away / g.bpg in
      let place = away % g.bpg in
      let split : n * g.bpg + place ≡ away = div-add-mod' away g.bpg in
      let below : place < g.bpg = mod-lt away (omega (arith, ok.bpg_low)) in
      let is : b ≡ group_start g n + place = omega (arith, split, behind) in
      let within : n < g.groups = group_within n g.groups g.bpg (omega (arith, split, inside, behind)) in
      subst (λ (r : Region). InRegion g b r) (sym (behind_log g b n place is below)) (lies_in_group g b n place ok within is below)
]
