-- The clear bits of the inodes of a sound volume: those from 2 on that are neither in use nor held.
use Rattle.std.proofs.Common.{◌≡◌, ◌↔◌, ℕ, zero, suc, ◌+◌, ◌-◌, ◌*◌, ◌/◌, ◌%◌, ◌<◌, ◌≤◌, inl, inr, Bool, true, false, not, ◌&&◌, ◌||◌, List, length, take, Option, Some, None, refl, sym, ap, ◌∙◌, arith}
use Rattle.std.specs.Prelude.{All, nat_le, nat_lt, ◌==◌, is_some, option_map, option_and_then, slice_get, slice_index_or}
use Rattle.std.specs.Option.{option_map_or}
use Rattle.std.proofs.Math.Nat.{div-eq_of_lt, mod-eq_of_lt, mul-le-mul_right}
use Rattle.std.proofs.lemmas.Nat.{div-mul-add, mod-mul-add}
use Rattle.std.proofs.lemmas.Bool.{cases_lt, and_from, and_parts, or_parts, or_cases, or_from, le-leb, lt-ltb, leb-false, not-false, not_from_true, both_ways, false≢true}
use Rattle.std.proofs.lemmas.Option.{cond_some}
use Rattle.lufs_base.specs.Fields.{u32_at}
use Rattle.lufs_base.specs.Layout.{IsGeometry, group_start}
use Rattle.lufs_base.specs.declared.geometry.Geometry.{Geometry}
use Rattle.volume_model.specs.declared.finding.Kind.TheVariants.{Group, Inode, InodeBit}
use Rattle.volume_model.specs.declared.hand.Hand.{Hand}
use Rattle.volume_model.specs.Format.{Blocks, inodes_of, GroupRecord, bit_at, are_set, clear_bits, named_group, has_reserved, is_group, group_of}
use Rattle.volume_model.specs.Sound.{Reading, InodeState, NoRecord, Unused, InUse, UsedInode, reading_of, inodes_in, record_at, used_of, used_at, held_inodes, is_among, is_bad_state, inode_bit, differ, clear_inodes_in, clear_inodes_of, Sound, node_of, tree_of, used_in_tree, free_inodes_of}
use Rattle.volume_model.proofs.SetBits.{each_set}
use Rattle.volume_laws.proofs.Members.{Contains_range}
use Rattle.volume_laws.proofs.SoundRules.{rule_kept}
use Rattle.volume_laws.proofs.ClaimFacts.{length-inodes}
use Rattle.volume_laws.proofs.FreeBits.{clear_counted, record_in_volume, of_some, same_answers}
use Rattle.volume_laws.proofs.TreeClaims.{node_there}
use Rattle.volume_laws.proofs.Counting.{one_if, total, total_same, total_and, total_rows, sum_of_range, times_apart, left_over}

-- the inodes 0 and 1 are never free
reserved_inodes : (g : Geometry) (bytes : List ℕ) (group : GroupRecord) → group_of g 0 bytes ≡ Some group → (i : ℕ) → i < 2 → bit_at group.inode_bits i ≡ true
unfolding group_of
reserved_inodes g bytes group is i low =
    let found = cond_some (is_group g 0 bytes) (named_group bytes) group is in
    let four = and_parts _ _ found.0 in
    let number : (u32_at bytes 4 == 0) ≡ true = (and_parts _ _ (and_parts _ _ (and_parts _ _ four.0).0).0).1 in
    let reserved : has_reserved g (named_group bytes) ≡ true = four.1 in
    let other : Bool = not (u32_at bytes 4 == 0) in
    let set : Bool = are_set (named_group bytes).inode_bits 2 in
    let either : (other || set) ≡ true = (and_parts (are_set (named_group bytes).block_bits (1 + g.ipg / 32)) (other || set) reserved).1 in
    let both : set ≡ true = elim (or_cases other set either) [
      | inl away ↦ absurd (both_ways other (not_from_true (u32_at bytes 4 == 0) number) away)
      | inr here ↦ here
    ] in
    ap (λ (r : GroupRecord). bit_at r.inode_bits i) (sym found.1) ∙ each_set (named_group bytes).inode_bits 2 both i low

-- a state that is right for inode 0 or 1 is no inode in use
low_is_free : (i : ℕ) → nat_lt i 2 ≡ true → (s : Option InodeState) → is_bad_state i s ≡ false → option_and_then used_of s ≡ None
low_is_free i low None right = absurd (cc)
low_is_free i low (Some NoRecord) right = absurd (cc)
low_is_free i low (Some Unused) right = refl
low_is_free i low (Some (InUse u)) right = absurd (both_ways (nat_lt i 2) right low)

neither : (used among : Bool) → not (used || among) ≡ (not used && not among)
neither true among = refl
neither false among = refl

free_or_used : (low used : Bool) → (low ≡ false → used ≡ false) → one_if (low && not used) + one_if used ≡ one_if low
free_or_used true true none = refl
free_or_used true false none = refl
free_or_used false true none = absurd (false≢true (sym (none refl)))
free_or_used false false none = refl

-- all numbers below n but two
from_two : (n : ℕ) → total (λ i. one_if (nat_le 2 i)) (2 + n) ≡ n
from_two zero = refl
from_two (suc n) =
    let at : 2 + suc n ≡ suc (2 + n) = omega arith in
    let last : one_if (nat_le 2 (2 + n)) ≡ 1 = ap one_if (le-leb 2 (2 + n) (omega arith)) in
    omega (arith, ap (total (λ i. one_if (nat_le 2 i))) at, from_two n, last)

none_there : (o : Option UsedInode) → is_some o ≡ false → o ≡ None
none_there None none = refl
none_there (Some u) none = absurd (cc)

no_node : (blocks : Blocks) (o : Option UsedInode) → option_map (node_of blocks) o ≡ None → is_some o ≡ false
no_node blocks None none = refl
no_node blocks (Some u) none = absurd (cc)

module _ (g : Geometry) (blocks : Blocks) (hands : List Hand) (sound : Sound g blocks hands) where
  abbrev r : Reading
  r = reading_of g blocks

  abbrev held : List ℕ
  held = held_inodes hands

  -- the bit of an inode from 2 on says whether it is in use or held
  bit_of_inode : (i : ℕ) → 2 ≤ i → i < inodes_of g → inode_bit g r i ≡ (is_some (used_at r i) || is_among i held)
  bit_of_inode i low within =
      let answer = is_some (used_at r i) || is_among i held in
      let bad = differ (inode_bit g r i) answer in
      let inside : i < inodes_in r = omega (arith, within, length-inodes g blocks) in
      let kept : (nat_le 2 i && bad) ≡ false = rule_kept sound InodeBit i (Contains_range (inodes_in r) i inside) in
      same_answers (inode_bit g r i) answer (ap (λ (t : Bool). t && bad) (sym (le-leb 2 i low)) ∙ kept)

  low_unused : (i : ℕ) → i < 2 → i < inodes_of g → used_at r i ≡ None
  low_unused i low within =
      let inside : i < inodes_in r = omega (arith, within, length-inodes g blocks) in
      low_is_free i (lt-ltb i 2 low) (slice_get r.inodes i) (rule_kept sound Inode i (Contains_range (inodes_in r) i inside))

  low_set : IsGeometry g → (i : ℕ) → i < 2 → inode_bit g r i ≡ true
  low_set ok i low =
      let small : i < g.ipg = omega (arith, low, ok.ipg_low) in
      let there : is_some (record_at r 0) ≡ true = not-false (is_some (record_at r 0)) (rule_kept sound Group 0 (Contains_range g.groups 0 ok.groups_low)) in
      let at : inode_bit g r i ≡ option_map_or (λ group. bit_at group.inode_bits i) (record_at r 0) false =
      ap (λ (n : ℕ). option_map_or (λ group. bit_at group.inode_bits (i % g.ipg)) (record_at r n) false) (div-eq_of_lt small)
      ∙ ap (λ (k : ℕ). option_map_or (λ group. bit_at group.inode_bits k) (record_at r 0) false) (mod-eq_of_lt small) in
      at ∙ set_in i (record_at r 0) there (λ group is. reserved_inodes g (take 416 (blocks (group_start g 0))) group (sym (record_in_volume g blocks 0 ok.groups_low) ∙ is) i low)
    where
      set_in : (i : ℕ) (o : Option GroupRecord) → is_some o ≡ true → ((group : GroupRecord) → o ≡ Some group → bit_at group.inode_bits i ≡ true)
          → option_map_or (λ group. bit_at group.inode_bits i) o false ≡ true
      set_in i None there each = absurd (false≢true there)
      set_in i (Some group) there each = each group refl

  -- an inode that may be taken
  abbrev is_left : ℕ → Bool
  is_left i = nat_le 2 i && not (is_some (used_at r i))

  clear_inode : IsGeometry g → (i : ℕ) → i < inodes_of g → one_if (not (inode_bit g r i)) ≡ one_if (is_left i && not (is_among i held))
  clear_inode ok i within = elim (cases_lt i 2) [
    | inl low ↦
        let none : nat_le 2 i ≡ false = leb-false' i low in
        ap (λ (t : Bool). one_if (not t)) (low_set ok i low) ∙ sym (ap (λ (t : Bool). one_if ((t && not (is_some (used_at r i))) && not (is_among i held))) none)
    | inr high ↦
        ap (λ (t : Bool). one_if (not t)) (bit_of_inode i high within) ∙ ap one_if (neither (is_some (used_at r i)) (is_among i held))
        ∙ sym (ap (λ (t : Bool). one_if ((t && not (is_some (used_at r i))) && not (is_among i held))) (le-leb 2 i high))
  ]
    where
      leb-false' : (i : ℕ) → i < 2 → nat_le 2 i ≡ false
      leb-false' zero low = refl
      leb-false' (suc zero) low = refl
      leb-false' (suc (suc i)) low = absurd (omega (arith, low))

  -- the bits of a group's inodes
  clear_in_row : (n : ℕ) → n < g.groups → clear_inodes_in g r n ≡ total (λ p. one_if (not (inode_bit g r (n * g.ipg + p)))) g.ipg
  clear_in_row n within =
      let there : is_some (record_at r n) ≡ true = not-false (is_some (record_at r n)) (rule_kept sound Group n (Contains_range g.groups n within)) in
      of_some (λ (group : GroupRecord). clear_bits group.inode_bits g.ipg) (record_at r n) (total (λ p. one_if (not (inode_bit g r (n * g.ipg + p)))) g.ipg) there (λ group here.
      clear_counted group.inode_bits g.ipg
      ∙ total_same (λ p. one_if (not (bit_at group.inode_bits p))) (λ p. one_if (not (inode_bit g r (n * g.ipg + p)))) g.ipg (λ p below.
      ap (λ (t : Bool). one_if (not t)) (sym (
      ap (λ (m : ℕ). option_map_or (λ group. bit_at group.inode_bits ((n * g.ipg + p) % g.ipg)) (record_at r m) false) (div-mul-add n g.ipg p below)
      ∙ ap (λ (o : Option GroupRecord). option_map_or (λ group. bit_at group.inode_bits ((n * g.ipg + p) % g.ipg)) o false) here
      ∙ ap (bit_at group.inode_bits) (mod-mul-add n g.ipg p below)))))

  -- the clear bits and what is held are the inodes from 2 on that are not in use
  pub clear_and_used : IsGeometry g → clear_inodes_of g r + length held ≡ free_inodes_of g (tree_of g blocks)
  unfolding tree_of free_inodes_of
  clear_and_used ok =
      let n = inodes_of g in
      let many : 1 * g.ipg ≤ g.groups * g.ipg = mul-le-mul_right g.ipg ok.groups_low in
      let two : 2 + (n - 2) ≡ n = omega (arith, many, ok.ipg_low) in
      let clear : ℕ → ℕ = λ i. one_if (not (inode_bit g r i)) in
      let bits : clear_inodes_of g r ≡ total clear n =
      sum_of_range (clear_inodes_in g r) g.groups
      ∙ total_same (clear_inodes_in g r) (λ k. total (λ p. clear (k * g.ipg + p)) g.ipg) g.groups clear_in_row ∙ sym (total_rows clear g.groups g.ipg) in
      let left : total clear n ≡ total (λ i. one_if (is_left i && not (is_among i held))) n =
      total_same clear (λ i. one_if (is_left i && not (is_among i held))) n (clear_inode ok) in
      let inside : All (λ i. i < n) held = λ k d less. omega (arith, (sound.apart.inodes_usable k d less).1, length-inodes g blocks) in
      let free : All (λ i. is_left i ≡ true) held = λ k d less.
      let i = slice_index_or held k d in
      and_from (nat_le 2 i) (not (is_some (used_at r i))) (le-leb 2 i (sound.apart.inodes_usable k d less).0)
      (ap (λ (o : Option UsedInode). not (is_some o)) (sound.apart.inodes_free k d less)) in
      let over : total (λ i. one_if (is_left i && not (is_among i held))) n + length held ≡ total (λ i. one_if (is_left i)) n =
      left_over is_left held n inside free (λ i passes. times_apart i held sound.apart.inodes) in
      let used : ℕ → ℕ = λ i. one_if (is_some (used_at r i)) in
      let each : total (λ i. one_if (is_left i) + used i) n ≡ total (λ i. one_if (nat_le 2 i)) n =
      total_same (λ i. one_if (is_left i) + used i) (λ i. one_if (nat_le 2 i)) n (λ i within.
      free_or_used (nat_le 2 i) (is_some (used_at r i)) (λ low. ap is_some (low_unused i (leb-false 2 i low) within))) in
      let all : total (λ i. one_if (nat_le 2 i)) n ≡ n - 2 = ap (total (λ i. one_if (nat_le 2 i))) (sym two) ∙ from_two (n - 2) in
      let nodes : used_in_tree g (tree_of g blocks) ≡ total used n =
      sum_of_range (λ i. one_if (is_some (tree_of g blocks i))) n
      ∙ total_same (λ i. one_if (is_some (tree_of g blocks i))) used n (λ i within. ap one_if (node_there (node_of blocks) (used_at r i))) in
      omega (arith, bits, left, over, each, total_and (λ i. one_if (is_left i)) used n, all, nodes)

  pub bit_and_node : (i : ℕ) → 2 ≤ i → i < inodes_of g → (inode_bit g r i ≡ false) ↔ ((tree_of g blocks i ≡ None) × (is_among i held ≡ false))
  unfolding tree_of
  bit_and_node i low within =
      let used = is_some (used_at r i) in
      let bit = bit_of_inode i low within in (
        (λ clear.
            let parts = or_parts used (is_among i held) (sym bit ∙ clear) in
            (ap (option_map (node_of blocks)) (none_there (used_at r i) parts.0), parts.1)),
        (λ free. bit ∙ or_from used (is_among i held) (no_node blocks (used_at r i) free.0) free.1),
      )
