-- The records of two inodes stand apart.
use Rattle.std.proofs.Common.{◌≡◌, ◌≢◌, ◌<◌, ◌≤◌, ◌⊎◌, inl, inr, ℕ, ◌+◌, ◌*◌, ◌/◌, ◌%◌, ap, arith}
use Rattle.std.proofs.Math.Nat.{mod-lt, div-add-mod', mul-le-mul_right}
use Rattle.std.proofs.lemmas.Bool.{cases_order}
use Rattle.lufs_base.specs.Layout.{IsGeometry, group_start, inode_address}
use Rattle.lufs_base.specs.declared.geometry.Geometry.{Geometry}

-- a record of a lower group ends before one of a higher group begins
lower_group : (g : Geometry) (i j : ℕ) → IsGeometry g → i / g.ipg < j / g.ipg → inode_address g i + 128 ≤ inode_address g j
lower_group g i j ok lower =
    let some : 0 < g.ipg = omega (arith, ok.ipg_low) in
    let place : i % g.ipg < g.ipg = mod-lt i some in
    let next : i / g.ipg + 1 ≤ j / g.ipg = omega (arith, lower) in
    let product : (i / g.ipg + 1) * g.bpg ≤ (j / g.ipg) * g.bpg = mul-le-mul_right g.bpg next in
    let spread : (i / g.ipg + 1) * g.bpg ≡ (i / g.ipg) * g.bpg + g.bpg = omega arith in
    omega (arith, place, product, spread, ok.room, ok.ipg_step)

-- records of two inodes don't meet
pub records_apart : (g : Geometry) (i j : ℕ) → IsGeometry g → j ≢ i
    → (inode_address g i + 128 ≤ inode_address g j) ⊎ (inode_address g j + 128 ≤ inode_address g i)
records_apart g i j ok other = elim (cases_order (i / g.ipg) (j / g.ipg)) [
  | inl same ↦
      let whole_i : (i / g.ipg) * g.ipg + i % g.ipg ≡ i = div-add-mod' i g.ipg in
      let whole_j : (j / g.ipg) * g.ipg + j % g.ipg ≡ j = div-add-mod' j g.ipg in
      let rows : (i / g.ipg) * g.ipg ≡ (j / g.ipg) * g.ipg = ap (λ (k : ℕ). k * g.ipg) same in
      let starts : group_start g (i / g.ipg) ≡ group_start g (j / g.ipg) = ap (group_start g) same in
      elim (cases_order (i % g.ipg) (j % g.ipg)) [
        | inl equal ↦ absurd (other (omega (arith, whole_i, whole_j, rows, equal)))
        | inr apart ↦ elim apart [
          | inl less ↦ inl (omega (arith, starts, less))
          | inr more ↦ inr (omega (arith, starts, more))
        ]
      ]
  | inr apart ↦ elim apart [
    | inl lower ↦ inl (lower_group g i j ok lower)
    | inr higher ↦ inr (lower_group g j i ok higher)
  ]
]

-- each begins at a multiple of 128
pub aligned : (g : Geometry) (i : ℕ) → inode_address g i % 128 ≡ 0
aligned g i = omega arith
