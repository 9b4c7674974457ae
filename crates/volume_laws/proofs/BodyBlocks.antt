-- The body blocks of a volume by their places in the groups, and how many there are.
use Rattle.std.proofs.Common.{◌≡◌, ℕ, ◌+◌, ◌-◌, ◌*◌, ◌/◌, ◌<◌, inl, inr, false, refl, sym, ap, ◌∙◌, arith}
use Rattle.std.specs.Prelude.{nat_lt}
use Rattle.std.proofs.lemmas.Bool.{cases_lt, and_right, and_from, cond-true, cond-false, lt-ltb, le-ltb}
use Rattle.lufs_base.specs.Layout.{IsGeometry, group_start, blocks_of, region_of}
use Rattle.lufs_base.specs.declared.geometry.Geometry.{Geometry}
use Rattle.lufs_base.specs.declared.geometry.Region.{Region}
use Rattle.lufs_base.specs.declared.geometry.Region.TheVariants.{Boot, Super, Log, GroupBlock, Inodes, Body}
use Rattle.lufs_base.proofs.Places.{only_region, group_fits}
use Rattle.volume_model.specs.Format.{body_blocks_of, is_body_region, is_body}
use Rattle.volume_laws.proofs.Counting.{one_if, total, total_same, total_split, total_constant, total_rows}

other_region : (g : Geometry) (b : ℕ) (r : Region) → r ≡ region_of g b → is_body_region r ≡ false → is_body g b ≡ false
other_region g b r is other = and_right (nat_lt b (blocks_of g)) (is_body_region (region_of g b)) (sym (ap is_body_region is) ∙ other)

-- a block before the groups is no body block
pub none_before : (g : Geometry) → IsGeometry g → (b : ℕ) → b < group_start g 0 → is_body g b ≡ false
none_before g ok b before = elim (cases_lt b 2) [
  | inl boot ↦ other_region g b Boot (only_region g b Boot ok boot) refl
  | inr more ↦ elim (cases_lt b 3) [
    | inl super ↦ other_region g b Super (only_region g b Super ok (omega arith)) refl
    | inr log ↦ other_region g b Log (only_region g b Log ok (log, before)) refl
  ]
]

-- a block of a group is a body block after the inode blocks
pub body_at : (g : Geometry) → IsGeometry g → (n place : ℕ) → n < g.groups → place < g.bpg → is_body g (group_start g n + place) ≡ nat_lt (g.ipg / 32) place
body_at g ok n place within below =
    let b = group_start g n + place in
    let next : group_start g (n + 1) ≡ group_start g n + g.bpg = omega arith in
    let inside : b < blocks_of g = omega (arith, group_fits g n within, below) in
    elim (cases_lt (g.ipg / 32) place) [
      | inl behind ↦
          let region : Body n ≡ region_of g b = only_region g b (Body n) ok (within, omega (arith, behind), omega (arith, next, below)) in
          and_from (nat_lt b (blocks_of g)) (is_body_region (region_of g b)) (lt-ltb b (blocks_of g) inside) (sym (ap is_body_region region))
          ∙ sym (lt-ltb (g.ipg / 32) place behind)
      | inr low ↦ elim (cases_lt 0 place) [
        | inl inode ↦
            other_region g b (Inodes n) (only_region g b (Inodes n) ok (within, omega (arith, inode), omega (arith, low))) refl
            ∙ sym (le-ltb (g.ipg / 32) place low)
        | inr first ↦
            other_region g b (GroupBlock n) (only_region g b (GroupBlock n) ok (within, omega (arith, first))) refl
            ∙ sym (le-ltb (g.ipg / 32) place low)
      ]
    ]

-- a sum over the blocks of the groups
pub by_groups : (g : Geometry) (f : ℕ → ℕ) → ((b : ℕ) → b < group_start g 0 → f b ≡ 0)
    → total f (blocks_of g) ≡ total (λ n. total (λ place. f (group_start g n + place)) g.bpg) g.groups
by_groups g f before =
    let start = group_start g 0 in
    let whole : blocks_of g ≡ start + g.groups * g.bpg = omega arith in
    let none : total f start ≡ start * 0 = total_constant f 0 start before in
    let rows : total (λ i. f (start + i)) (g.groups * g.bpg) ≡ total (λ n. total (λ place. f (start + (n * g.bpg + place))) g.bpg) g.groups =
    total_rows (λ i. f (start + i)) g.groups g.bpg in
    let places : total (λ n. total (λ place. f (start + (n * g.bpg + place))) g.bpg) g.groups ≡ total (λ n. total (λ place. f (group_start g n + place)) g.bpg) g.groups =
    total_same (λ n. total (λ place. f (start + (n * g.bpg + place))) g.bpg) (λ n. total (λ place. f (group_start g n + place)) g.bpg) g.groups (λ n within.
    total_same (λ place. f (start + (n * g.bpg + place))) (λ place. f (group_start g n + place)) g.bpg (λ place below.
    ap f (let at : start + (n * g.bpg + place) ≡ group_start g n + place = omega arith in at))) in
    omega (arith, ap (total f) whole, total_split f start (g.groups * g.bpg), none, rows, places)

-- all body blocks
pub bodies_counted : (g : Geometry) → IsGeometry g → total (λ b. one_if (is_body g b)) (blocks_of g) ≡ body_blocks_of g
bodies_counted g ok =
    let first = 1 + g.ipg / 32 in
    let rest = g.bpg - (1 + g.ipg / 32) in
    let is_one : ℕ → ℕ = λ place. one_if (nat_lt (g.ipg / 32) place) in
    let all : first + rest ≡ g.bpg = omega (arith, ok.room) in
    let records : total is_one first ≡ first * 0 =
    total_constant is_one 0 first (λ place below. cond-false (nat_lt (g.ipg / 32) place) 1 0 (le-ltb (g.ipg / 32) place (omega (arith, below)))) in
    let bodies : total (λ i. is_one (first + i)) rest ≡ rest * 1 =
    total_constant (λ i. is_one (first + i)) 1 rest (λ i below.
    cond-true (nat_lt (g.ipg / 32) (first + i)) 1 0 (lt-ltb (g.ipg / 32) (first + i) (omega arith))) in
    let group : total is_one g.bpg ≡ rest = omega (arith, sym (ap (total is_one) all), total_split is_one first rest, records, bodies) in
    by_groups g (λ b. one_if (is_body g b)) (λ b before. cond-false (is_body g b) 1 0 (none_before g ok b before))
    ∙ total_constant (λ n. total (λ place. one_if (is_body g (group_start g n + place))) g.bpg) rest g.groups (λ n within.
    total_same (λ place. one_if (is_body g (group_start g n + place))) is_one g.bpg (λ place below. ap one_if (body_at g ok n place within below)) ∙ group)
