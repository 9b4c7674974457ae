-- The bits and the counts of a new volume say which of its inodes and blocks are in use.
use Rattle.std.proofs.Common.{◌≡◌, ◌≢◌, ◌<◌, ◌≤◌, ℕ, zero, suc, ◌+◌, ◌-◌, ◌*◌, ◌/◌, ◌%◌, Bool, true, false, not, ◌||◌, [], Option, is_some, inl, inr, refl, sym, ap, ◌∙◌, arith, nat_lt}
use Rattle.std.specs.Prelude.{◌==◌, nat_le}
use Rattle.std.specs.List.{list_any}
use Rattle.std.specs.Option.{option_map_or}
use Rattle.std.proofs.Math.Nat.{div-eq_of_lt, mod-eq_of_lt, div-add-mod', div-lt_iff_lt-mul}
use Rattle.std.proofs.lemmas.Nat.{div-mul-add, mod-mul-add}
use Rattle.std.proofs.lemmas.Bool.{cases_lt, cases_eq, cases_Bool, cond-false, eq-eqb, ne_eqb, lt-ltb, le-ltb, ltb-true, and_from, and_parts, and_left, and_right, not_from_true}
use Rattle.lufs_base.specs.Layout.{IsGeometry, InRegion, group_start, blocks_of, region_of}
use Rattle.lufs_base.specs.declared.geometry.Geometry.{Geometry}
use Rattle.lufs_base.specs.declared.geometry.Region.{Region}
use Rattle.lufs_base.specs.declared.geometry.Region.TheVariants.{Boot, Super, Log, GroupBlock, Inodes, Body}
use Rattle.lufs_base.proofs.Places.{lies_in_region}
use Rattle.volume_model.specs.Format.{inodes_of, is_body, is_body_region, GroupRecord, bit_at}
use Rattle.volume_model.specs.Sound.{UsedInode, Reading, used_at, record_at, Claim, is_claimed, inode_bit, block_bit, differ, has_bad_inode_bit, has_bad_block_bit, has_right_counts, has_bad_count}
use Rattle.volume_model.specs.MkfsImage.{used_inodes, used_blocks, root_block}
use Rattle.new_volume.proofs.FirstBits.{first_bit, clear_in_first}
use Rattle.new_volume.proofs.Groups.{groups_rise, used_of_other}
use Rattle.new_volume.proofs.NewRecords.{used_inodes_few, used_blocks_fit}
use Rattle.new_volume.proofs.NewReading.{new_reading}
use Rattle.new_volume.proofs.NewClaims.{used_elsewhere, record_there, new_claims}

module _ (g : Geometry) (moment : ℕ) (ok : IsGeometry g) where
  abbrev r : Reading
  r = new_reading g moment

  -- the bits of inodes
  inode_bit_is : (i : ℕ) → i < inodes_of g → inode_bit g r i ≡ nat_lt (i % g.ipg) (used_inodes (i / g.ipg))
  inode_bit_is i inside =
      let within : i / g.ipg < g.groups = (div-lt_iff_lt-mul {k = g.ipg} (omega (arith, ok.ipg_low))).1 inside in
      ap (λ (o : Option GroupRecord). option_map_or (λ group. bit_at group.inode_bits (i % g.ipg)) o false) (record_there g moment ok (i / g.ipg) within)
      ∙ first_bit (used_inodes (i / g.ipg)) 128 (i % g.ipg) (omega (arith, used_inodes_few (i / g.ipg)))

  root_bit : nat_lt (2 % g.ipg) (used_inodes (2 / g.ipg)) ≡ true
  root_bit =
      let low : 2 < g.ipg = omega (arith, ok.ipg_low) in
      ap (λ k. nat_lt k (used_inodes (2 / g.ipg))) (mod-eq_of_lt low) ∙ ap (λ n. nat_lt 2 (used_inodes n)) (div-eq_of_lt low)

  other_bit : (i : ℕ) → 3 ≤ i → nat_lt (i % g.ipg) (used_inodes (i / g.ipg)) ≡ false
  other_bit i past = le-ltb (i % g.ipg) (used_inodes (i / g.ipg)) (elim (cases_eq (i / g.ipg) 0) [
    | inl first ↦
        let three : used_inodes (i / g.ipg) ≡ 3 = ap used_inodes first in
        let none : i / g.ipg * g.ipg ≡ 0 = ap (λ k. k * g.ipg) first ∙ (let zero_times : 0 * g.ipg ≡ 0 = omega arith in zero_times) in
        let split : i / g.ipg * g.ipg + i % g.ipg ≡ i = div-add-mod' i g.ipg in
        omega (arith, three, none, split, past)
    | inr later ↦
        let none : used_inodes (i / g.ipg) ≡ 0 = cond-false (i / g.ipg == 0) 3 0 (ne_eqb _ 0 later) in
        omega (arith, none)
  ])

  pub right_inode_bit : (i : ℕ) → i < inodes_of g → has_bad_inode_bit g r [] i ≡ false
  right_inode_bit zero inside = refl
  right_inode_bit (suc zero) inside = refl
  right_inode_bit (suc (suc zero)) inside = ap (λ (bit : Bool). differ bit true) (inode_bit_is 2 inside ∙ root_bit)
  right_inode_bit (suc (suc (suc k))) inside =
      let i = suc (suc (suc k)) in
      and_right (nat_le 2 i) _
      (ap (λ (bit : Bool). differ bit (is_some (used_at r i) || false)) (inode_bit_is i inside ∙ other_bit i (omega arith))
      ∙ ap (λ (u : Option UsedInode). is_some u || false) (used_elsewhere g moment ok i (λ same. omega (arith, same))))

  -- the bits of blocks
  block_bit_is : (b n place : ℕ) → n < g.groups → place < g.bpg → b ≡ group_start g n + place → block_bit g r b ≡ nat_lt place (used_blocks g n)
  block_bit_is b n place within below is =
      let away : b - group_start g 0 ≡ n * g.bpg + place = omega (arith, is) in
      let group : (b - group_start g 0) / g.bpg ≡ n = ap (λ k. k / g.bpg) away ∙ div-mul-add n g.bpg place below in
      let rest : (b - group_start g 0) % g.bpg ≡ place = ap (λ k. k % g.bpg) away ∙ mod-mul-add n g.bpg place below in
      let bit : Option GroupRecord → ℕ → Bool = λ o k. option_map_or (λ group. bit_at group.block_bits k) o false in
      ap (λ n. bit (record_at r n) ((b - group_start g 0) % g.bpg)) group ∙ ap (λ k. bit (record_at r n) k) rest
      ∙ ap (λ o. bit o place) (record_there g moment ok n within) ∙ first_bit (used_blocks g n) 256 place (used_blocks_fit g n ok)

  body_of : (b : ℕ) (region : Region) → is_body_region region ≡ true → InRegion g b region → (n : ℕ) × InRegion g b (Body n)
  body_of b Boot test lies = absurd (cc)
  body_of b Super test lies = absurd (cc)
  body_of b Log test lies = absurd (cc)
  body_of b (GroupBlock n) test lies = absurd (cc)
  body_of b (Inodes n) test lies = absurd (cc)
  body_of b (Body n) test lies = (n, lies)

  -- a bit of a body block says whether the block is that of the root
  body_bit : (b n : ℕ) → InRegion g b (Body n) → nat_lt (b - group_start g n) (used_blocks g n) ≡ (root_block g == b)
  body_bit b zero lies = elim (cases_eq (root_block g) b) [
    | inl same ↦ lt-ltb _ _ (omega (arith, same)) ∙ sym (eq-eqb _ _ same)
    | inr other ↦ le-ltb _ _ (past b lies.1 other) ∙ sym (ne_eqb _ _ other)
  ]
    where
      past : (b : ℕ) → group_start g 0 + g.ipg / 32 < b → root_block g ≢ b → used_blocks g 0 ≤ b - group_start g 0
      past b low other = elim (cases_lt (root_block g) b) [
        | inl less ↦ omega (arith, less)
        | inr more ↦ absurd (other (omega (arith, more, low)))
      ]
  body_bit b (suc n) lies =
      let rises = groups_rise g 0 (suc n) (omega arith) in
      le-ltb _ _ (omega (arith, used_of_other g n, lies.1)) ∙ sym (ne_eqb (root_block g) b (λ same. omega (arith, same, rises, lies.1, ok.room)))

  agree : (p q : Bool) → p ≡ q → differ p (q || false || false) ≡ false
  agree true true same = refl
  agree true false same = absurd (cc)
  agree false true same = absurd (cc)
  agree false false same = refl

  pub right_block_bit : (b : ℕ) → has_bad_block_bit g r [] b ≡ false
  right_block_bit b = elim (cases_Bool (is_body g b)) [
    | inr other ↦ and_left (is_body g b) _ other
    | inl body ↦
        let parts = and_parts _ _ body in
        let found = body_of b (region_of g b) parts.1 (lies_in_region g b ok (ltb-true b (blocks_of g) parts.0)) in
        let n : ℕ = found.0 in
        let lies : InRegion g b (Body n) = found.1 in
        let next : group_start g (n + 1) ≡ group_start g n + g.bpg = omega arith in
        let bit : block_bit g r b ≡ (root_block g == b) =
        block_bit_is b n (b - group_start g n) lies.0 (omega (arith, lies.1, lies.2, next)) (omega (arith, lies.1)) ∙ body_bit b n lies in
        let claimed : is_claimed r b ≡ ((root_block g == b) || false) = ap (list_any (λ (claim : Claim). claim.block == b)) (new_claims g moment ok) in
        and_right (is_body g b) _ (ap (λ (c : Bool). differ (block_bit g r b) (c || false)) claimed ∙ agree (block_bit g r b) (root_block g == b) bit)
  ]

  pub right_count : (n : ℕ) → n < g.groups → has_bad_count g r n ≡ false
  right_count n within =
      ap (λ (o : Option GroupRecord). option_map_or (λ group. not (has_right_counts g group)) o false) (record_there g moment ok n within)
      ∙ not_from_true _ (and_from _ _ (eq-eqb _ _ (sym (clear_in_first (used_inodes n) 128 g.ipg (omega (arith, used_inodes_few n)))))
      (eq-eqb _ _ (sym (clear_in_first (used_blocks g n) 256 g.bpg (used_blocks_fit g n ok)))))
