-- What is free of a tree is found on a plain store while nothing is held: it releases each free block, and an inode is found.
use Rattle.std.proofs.Common.{◌≡◌, ◌<◌, ◌≤◌, inl, inr, ℕ, zero, suc, ◌+◌, ◌-◌, ◌*◌, Bool, true, false, not, ◌&&◌, ◌||◌, List, [], length, take, map, Option, Some, None, IfSome, refl, sym, ap, ◌∙◌, arith}
use Rattle.std.specs.Prelude.{All, ◌==◌, is_some, find, if◌then◌else◌}
use Rattle.std.specs.List.{count_by, filter, range_with_len}
use Rattle.std.proofs.lemmas.Bool.{cases_Bool, cases_eq, cases_lt, and_parts, ltb-true, eq-eqb, true≢false, false≢true}
use Rattle.std.proofs.lemmas.List.{length-map, length-take}
use Rattle.std.proofs.lemmas.List.Elements.{All-map, All-weaker}
use Rattle.std.proofs.lemmas.List.Sums.{length-filter}
use Rattle.lufs_base.specs.Layout.{IsGeometry, blocks_of, region_of}
use Rattle.lufs_base.specs.declared.geometry.Geometry.{Geometry}
use Rattle.volume_model.specs.declared.finding.Kind.TheVariants.{Fields}
use Rattle.volume_model.specs.Format.{Image, block, inodes_of, is_body_region, is_body}
use Rattle.volume_model.specs.Sound.{Reading, reading_of, inodes_in, Claim, claims_of, claims_on, is_claimed, held_blocks, is_among, block_bit, Node, Tree, used_in_tree, claimed_in_tree, free_inodes_of, free_blocks_of, StandsFor}
use Rattle.volume_laws.proofs.Members.{Contains_range}
use Rattle.volume_laws.proofs.SoundRules.{rule_kept}
use Rattle.volume_laws.proofs.ClaimFacts.{length-inodes, claims_are_body, claimed_once}
use Rattle.volume_laws.proofs.BodyBlocks.{bodies_counted}
use Rattle.volume_laws.proofs.FreeBits.{bit_of_body}
use Rattle.volume_laws.proofs.TreeClaims.{claims_of_tree}
use Rattle.volume_laws.proofs.Counting.{one_if, total, total_same, total_split, total_constant, times, sum_of_range, sum_of_map, any_of_map, left_over}
use Rattle.history_model.specs.Histories.{IsUsable}
use Rattle.meta_store.specs.Plain.{is_free}
use Rattle.block_alloc.specs.declared.taken.Taken.TheVariants.{Got}
use Rattle.block_alloc.specs.Taking.{is_unclaimed, released_blocks, blocks_left, lowest_inode, hand_for, answer_of}
use Rattle.block_alloc.proofs.Answered.{got}
use Rattle.block_alloc.proofs.ChosenHand.{find_gives}
use Rattle.plain_calls.specs.InHand.{HasEnough}

counted_so : (body claimed bit : Bool) → (body ≡ true → bit ≡ (claimed || false)) → ((body && not claimed) && ((body && not bit) || false)) ≡ (body && not claimed)
counted_so true true bit is = refl
counted_so true false bit is = ap (λ (t : Bool). not t || false) (is refl)
counted_so false claimed bit is = refl

left_so : (body claimed bit : Bool) → (body ≡ true → bit ≡ (claimed || false)) → ((body && not claimed) && ((body && not bit) && true)) ≡ (body && not claimed)
left_so true true bit is = refl
left_so true false bit is = ap (λ (t : Bool). not t && true) (is refl)
left_so false claimed bit is = refl

-- where none of a range is found, none passes
none_passes : (p : ℕ → Bool) (a n : ℕ) → find p (range_with_len a n) ≡ None → (j : ℕ) → a ≤ j → j < a + n → p j ≡ false
none_passes p a zero none j low below = absurd (omega (arith, low, below))
none_passes p a (suc n) none j low below = elim (cases_Bool (p a)) [
  | inl passes ↦
      let is : find p (range_with_len a (suc n)) ≡ Some a = ap (λ (t : Bool). if t then Some a else find p (range_with_len (a + 1) n)) passes in
      absurd (let e : None ≡ Some a = sym none ∙ is in cc)
  | inr fails ↦
      let is : find p (range_with_len a (suc n)) ≡ find p (range_with_len (a + 1) n) = ap (λ (t : Bool). if t then Some a else find p (range_with_len (a + 1) n)) fails in
      elim (cases_eq j a) [
        | inl same ↦ ap p same ∙ fails
        | inr other ↦ none_passes p (a + 1) n (sym is ∙ none) j (omega (arith, low, other)) (omega (arith, below))
      ]
]

used_test : (o : Option Node) → (not (is_some o) && true) ≡ false → one_if (is_some o) ≡ 1
used_test None fails = absurd (true≢false fails)
used_test (Some node) fails = refl

free_test : (o : Option Node) → (not (is_some o) && true) ≡ true → o ≡ None
free_test None passes = refl
free_test (Some node) passes = absurd (false≢true passes)

module _ (g : Geometry) (tree : Tree) where
  abbrev is_left : ℕ → Bool
  is_left i = not (is_some (tree i)) && true

  -- where no inode is found, none is free
  none_free : (n : ℕ) → inodes_of g ≡ 2 + n → find is_left (range_with_len 2 n) ≡ None → free_inodes_of g tree ≡ 0
  unfolding free_inodes_of
  none_free n size none =
      let used : ℕ → ℕ = λ i. one_if (is_some (tree i)) in
      let all : total (λ i. used (2 + i)) n ≡ n * 1 =
      total_constant (λ i. used (2 + i)) 1 n (λ i below. used_test (tree (2 + i)) (none_passes is_left 2 n none (2 + i) (omega arith) (omega (arith, below)))) in
      let counted : used_in_tree g tree ≡ total used (2 + n) = sum_of_range used (inodes_of g) ∙ ap (total used) size in
      omega (arith, counted, total_split used 2 n, all, size)

  found_there : (o : Option ℕ) → (o ≡ None → ⊥) → is_some o ≡ true
  found_there None some = absurd (some refl)
  found_there (Some i) some = refl

  pub inode_found : (inode : Bool) → (inode && free_inodes_of g tree == 0) ≡ false → is_some (if inode then lowest_inode g tree [] else None) ≡ inode
  unfolding free_inodes_of
  inode_found false some = refl
  inode_found true some =
      let n = inodes_of g - 2 in
      found_there (find is_left (range_with_len 2 n)) (λ none.
      elim (cases_lt 1 (inodes_of g)) [
        | inl many ↦
            let size : inodes_of g ≡ 2 + (inodes_of g - 2) = omega (arith, many) in
            true≢false (sym (eq-eqb (free_inodes_of g tree) 0 (none_free n size none)) ∙ some)
        | inr few ↦
            let no_inode : free_inodes_of g tree ≡ 0 = omega (arith, few) in
            true≢false (sym (eq-eqb (free_inodes_of g tree) 0 no_inode) ∙ some)
      ])

  usable_if : (o : Option ℕ) → IfSome o (λ i. (2 ≤ i) × (i < 2 + (inodes_of g - 2)) × (is_left i ≡ true)) → IfSome o (IsUsable g tree)
  usable_if None found = tt
  usable_if (Some i) found = record { low = found.0; high = omega (arith, found.0, found.1); free = free_test (tree i) found.2 }

  pub inode_usable : (inode : Bool) → IfSome (if inode then lowest_inode g tree [] else None) (IsUsable g tree)
  inode_usable false = tt
  inode_usable true = usable_if (find is_left (range_with_len 2 (inodes_of g - 2))) (find_gives is_left 2 (inodes_of g - 2))

module _ (g : Geometry) (image : Image) (tree : Tree) (ok : IsGeometry g) (stands : StandsFor g (block image) tree []) where
  abbrev r : Reading
  r = reading_of g (block image)

  abbrev may : ℕ → Bool
  may = is_free g image

  claimed : List ℕ
  claimed = map (λ (claim : Claim). claim.block) (claims_of r)

  bodies : All (λ b. is_body g b ≡ true) claimed
  unfolding claimed
  bodies = All-map (λ b. is_body g b ≡ true) (λ claim. claim.block) (claims_of r) (claims_are_body g (block image) [] stands.sound)

  unclaimed_counted : count_by (is_unclaimed g r) (range_with_len 0 (blocks_of g)) ≡ free_blocks_of g tree
  unfolding claimed free_blocks_of
  unclaimed_counted =
      let n = blocks_of g in
      let among : (b : ℕ) → is_among b claimed ≡ is_claimed r b = λ b. any_of_map (λ m. m == b) (λ claim. claim.block) (claims_of r) in
      let once : (b : ℕ) → is_body g b ≡ true → times b claimed ≤ 1 = λ b body.
      let same : times b claimed ≡ claims_on r b = sum_of_map (λ m. one_if (m == b)) (λ claim. claim.block) (claims_of r) in
      omega (arith, same, claimed_once g (block image) [] stands.sound b body) in
      let inside : All (λ b. b < n) claimed = All-weaker (λ b. is_body g b ≡ true) (λ b. b < n) (λ b body. ltb-true b n (and_parts _ (is_body_region (region_of g b)) body).0) claimed bodies in
      let left = left_over (is_body g) claimed n inside bodies once in
      let here : count_by (is_unclaimed g r) (range_with_len 0 n) ≡ total (λ b. one_if (is_body g b && not (is_among b claimed))) n =
      sum_of_range (λ b. one_if (is_unclaimed g r b)) n
      ∙ total_same (λ b. one_if (is_unclaimed g r b)) (λ b. one_if (is_body g b && not (is_among b claimed))) n (λ b below. ap (λ (t : Bool). one_if (is_body g b && not t)) (sym (among b))) in
      let of_tree : length (claims_of r) ≡ claimed_in_tree g tree =
      claims_of_tree g (block image) (λ i below. rule_kept stands.sound Fields i (Contains_range (inodes_in r) i (omega (arith, below, length-inodes g (block image)))))
      ∙ ap (claimed_in_tree g) stands.stands in
      omega (arith, here, left, bodies_counted g ok, of_tree, length-map (claims_of r) (λ claim. claim.block))

  all_released : released_blocks g r may [] ≡ free_blocks_of g tree
  all_released =
      let same : (λ b. is_unclaimed g r b && (may b || is_among b (held_blocks []))) ≡ is_unclaimed g r =
      λ t b. counted_so (is_body g b) (is_claimed r b) (block_bit g r b) (bit_of_body g (block image) [] stands.sound b) t in
      ap (λ (p : ℕ → Bool). count_by p (range_with_len 0 (blocks_of g))) same ∙ unclaimed_counted

  all_left : length (blocks_left g r may []) ≡ free_blocks_of g tree
  all_left =
      let same : (λ b. is_unclaimed g r b && (may b && not (is_among b (held_blocks [])))) ≡ is_unclaimed g r =
      λ t b. left_so (is_body g b) (is_claimed r b) (block_bit g r b) (bit_of_body g (block image) [] stands.sound b) t in
      ap (λ (p : ℕ → Bool). length (filter p (range_with_len 0 (blocks_of g)))) same
      ∙ length-filter (is_unclaimed g r) (range_with_len 0 (blocks_of g)) ∙ unclaimed_counted

  module _ (inode : Bool) (n : ℕ) (has : HasEnough g tree inode n) where
    -- it is got
    pub is_got : answer_of g r tree may [] inode n ≡ Got (hand_for g r tree may [] inode n)
    is_got =
        let hand = hand_for g r tree may [] inode n in
        got inode n (free_inodes_of g tree) (free_blocks_of g tree) (released_blocks g r may []) 0 0 hand has.inodes has.blocks has.inodes
        (omega (arith, has.blocks, all_released)) (omega (arith, has.blocks, all_released))

    pub blocks_got : length (take n (blocks_left g r may [])) ≡ n
    blocks_got = omega (arith, has.blocks, all_left, length-take n (blocks_left g r may []))
