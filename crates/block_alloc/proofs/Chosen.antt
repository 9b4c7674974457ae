-- What is counted and chosen by the bits of the records, and what no inode claims and no hand holds.
use Rattle.std.proofs.Common.{◌≡◌, ◌<◌, ◌≤◌, ◌↔◌, inl, inr, ℕ, ◌+◌, ◌-◌, ◌*◌, ◌/◌, ◌%◌, Bool, true, false, not, ◌&&◌, ◌||◌, List, [], ◌∷◌, length, Option, Some, None, option_map, refl, sym, ap, ◌∙◌, arith}
use Rattle.std.specs.Prelude.{All, ◌==◌, is_some, slice_get, slice_index_or, find}
use Rattle.std.specs.List.{count_by, filter, range_with_len}
use Rattle.std.specs.Option.{option_map_or, option_flatten}
use Rattle.std.proofs.Math.Nat.{div-lt_iff_lt-mul}
use Rattle.std.proofs.lemmas.Bool.{cases_lt, and_parts, and_from, and_right, or_left, or_right, eq-eqb, ltb-true, not-false, not_from_false, true≢false}
use Rattle.std.proofs.lemmas.Option.{slice_get-map}
use Rattle.std.proofs.lemmas.List.Elements.{All-nil, All-cons, All-weaker}
use Rattle.lufs_base.specs.Layout.{IsGeometry, group_start, blocks_of, region_of}
use Rattle.lufs_base.specs.declared.geometry.Geometry.{Geometry}
use Rattle.volume_model.specs.declared.finding.Kind.TheVariants.{Group as of_groups}
use Rattle.volume_model.specs.declared.hand.Hand.{Hand}
use Rattle.volume_model.specs.Format.{Blocks, GroupRecord, inodes_of, is_body_region, is_body, bit_at}
use Rattle.volume_model.specs.Sound.{Reading, reading_of, record_at, is_claimed, held_inodes, held_blocks, is_among, inode_bit, Sound, Node, tree_of}
use Rattle.volume_laws.proofs.Members.{Contains_range}
use Rattle.volume_laws.proofs.SoundRules.{rule_kept}
use Rattle.volume_laws.proofs.BodyBlocks.{none_before}
use Rattle.volume_laws.proofs.FreeBits.{bit_of_body}
use Rattle.volume_laws.proofs.FreeInodes.{bit_and_node}
use Rattle.volume_laws.proofs.Counting.{one_if, total, total_same, sum_of_range, left_over, times_apart}
use Rattle.cyl_groups.specs.declared.group.Group.{Group}
use Rattle.cyl_groups.specs.Group.{record_of}
use Rattle.block_alloc.specs.Records.{AreRecords, is_clear_inode, is_clear_block, may_give}
use Rattle.block_alloc.specs.Taking.{is_unclaimed, released_blocks, blocks_left, lowest_inode}
use Rattle.block_alloc.proofs.Ranges.{filter_alike, find_alike}

flatten_map : (o : Option (Option Group)) → option_flatten (option_map (λ x. option_map record_of x) o) ≡ option_map record_of (option_flatten o)
flatten_map None = refl
flatten_map (Some x) = refl

-- the record of group n in the reading
pub record_kept : (r : Reading) (records : List (Option Group)) (n : ℕ) → AreRecords r records → record_at r n ≡ option_map record_of (option_flatten (slice_get records n))
record_kept r records n so =
    ap (λ (groups : List (Option GroupRecord)). option_flatten (slice_get groups n)) (sym so)
    ∙ ap option_flatten (slice_get-map (λ x. option_map record_of x) records n) ∙ flatten_map (slice_get records n)

-- a record that is there has a bit set or clear
clear_in_record : (bits : Group → List ℕ) (bits_of : GroupRecord → List ℕ) → ((x : Group) → bits_of (record_of x) ≡ bits x) → (place : ℕ) (o : Option Group) (q : Option GroupRecord)
    → q ≡ option_map record_of o → is_some q ≡ true
    → option_map_or (λ x. not (bit_at (bits x) place)) o false ≡ not (option_map_or (λ group. bit_at (bits_of group) place) q false)
clear_in_record bits bits_of same place None q is there = absurd (true≢false (sym there ∙ ap is_some is))
clear_in_record bits bits_of same place (Some x) q is there =
    ap (λ (bs : List ℕ). not (bit_at bs place)) (sym (same x))
    ∙ ap (λ (p : Option GroupRecord). not (option_map_or (λ group. bit_at (bits_of group) place) p false)) (sym is)

pub among_self : (xs : List ℕ) → All (λ x. is_among x xs ≡ true) xs
among_self [] = All-nil (λ x. is_among x [] ≡ true)
among_self (x ∷ xs) =
    All-cons (λ y. is_among y (x ∷ xs) ≡ true) x xs (or_left (x == x) (is_among x xs) (eq-eqb x x refl))
    (All-weaker (λ y. is_among y xs ≡ true) (λ y. is_among y (x ∷ xs) ≡ true) (λ y among. or_right (x == y) (is_among y xs) among) xs (among_self xs))

-- free by the bit and released: unclaimed, released or in hand, and in no hand
counted_test : (claimed may among : Bool) → (not (claimed || among) && may) ≡ (not claimed && (may || among) && not among)
counted_test true may among = refl
counted_test false true true = refl
counted_test false true false = refl
counted_test false false true = refl
counted_test false false false = refl

left_test : (claimed may among : Bool) → (not (claimed || among) && may) ≡ (not claimed && (may && not among))
left_test true may among = refl
left_test false true true = refl
left_test false true false = refl
left_test false false true = refl
left_test false false false = refl

counted_alike : (body clear claimed may among : Bool) → (body ≡ true → clear ≡ not (claimed || among))
    → (body && clear && may) ≡ (body && not claimed && (may || among) && not among)
counted_alike true clear claimed may among bit = ap (λ (t : Bool). t && may) (bit refl) ∙ counted_test claimed may among
counted_alike false clear claimed may among bit = refl

left_alike : (body clear claimed may among : Bool) → (body ≡ true → clear ≡ not (claimed || among))
    → (body && clear && may) ≡ (body && not claimed && (may && not among))
left_alike true clear claimed may among bit = ap (λ (t : Bool). t && may) (bit refl) ∙ left_test claimed may among
left_alike false clear claimed may among bit = refl

inode_test : (bit among : Bool) (o : Option Node) → ((bit ≡ false) ↔ ((o ≡ None) × (among ≡ false))) → not bit ≡ (not (is_some o) && not among)
inode_test false among o iff =
    let free = iff.0 refl in
    sym (and_from (not (is_some o)) (not among) (ap (λ (x : Option Node). not (is_some x)) free.0) (not_from_false among free.1))
inode_test true true o iff = sym (and_right (not (is_some o)) false refl)
inode_test true false (Some x) iff = refl
inode_test true false None iff = absurd (true≢false (iff.1 (refl, refl)))

module _ (g : Geometry) (blocks : Blocks) (hands : List Hand) (sound : Sound g blocks hands) (records : List (Option Group)) (ok : IsGeometry g) (so : AreRecords (reading_of g blocks) records) where
  abbrev r : Reading
  r = reading_of g blocks

  abbrev held : List ℕ
  held = held_blocks hands

  there : (n : ℕ) → n < g.groups → is_some (record_at r n) ≡ true
  there n within = not-false (is_some (record_at r n)) (rule_kept sound of_groups n (Contains_range g.groups n within))

  below_end : (b : ℕ) → is_body g b ≡ true → b < blocks_of g
  below_end b body = ltb-true b (blocks_of g) (and_parts _ (is_body_region (region_of g b)) body).0

  in_group : (b : ℕ) → is_body g b ≡ true → (b - group_start g 0) / g.bpg < g.groups
  in_group b body = elim (cases_lt b (group_start g 0)) [
    | inl before ↦ absurd (true≢false (sym body ∙ none_before g ok b before))
    | inr low ↦
        let below : b - group_start g 0 < g.groups * g.bpg = omega (arith, low, below_end b body) in
        (div-lt_iff_lt-mul {k = g.bpg} (omega (arith, ok.bpg_low))).1 below
  ]

  -- the bit of a body block is clear where it is neither claimed nor held
  clear_block : (b : ℕ) → is_body g b ≡ true → is_clear_block g records b ≡ not (is_claimed r b || is_among b held)
  clear_block b body =
      let n = (b - group_start g 0) / g.bpg in
      clear_in_record (λ x. x.block_bits) (λ x. x.block_bits) (λ x. refl) ((b - group_start g 0) % g.bpg) (option_flatten (slice_get records n)) (record_at r n)
      (record_kept r records n so) (there n (in_group b body))
      ∙ ap not (bit_of_body g blocks hands sound b body)

  clear_inode : (i : ℕ) → 2 ≤ i → i < inodes_of g → is_clear_inode g records i ≡ (not (is_some (tree_of g blocks i)) && not (is_among i (held_inodes hands)))
  clear_inode i low inside =
      let n = i / g.ipg in
      let within : n < g.groups = (div-lt_iff_lt-mul {k = g.ipg} (omega (arith, ok.ipg_low))).1 inside in
      clear_in_record (λ x. x.inode_bits) (λ x. x.inode_bits) (λ x. refl) (i % g.ipg) (option_flatten (slice_get records n)) (record_at r n)
      (record_kept r records n so) (there n within)
      ∙ inode_test (inode_bit g r i) (is_among i (held_inodes hands)) (tree_of g blocks i) (bit_and_node g blocks hands sound i low inside)

  module _ (may : ℕ → Bool) where
    -- those that are released or in hand are the ones that may be given, and those in hand
    pub released_counted : count_by (may_give g records may) (range_with_len 0 (blocks_of g)) + length held ≡ released_blocks g r may hands
    released_counted =
        let end = blocks_of g in
        let p : ℕ → Bool = λ b. is_unclaimed g r b && (may b || is_among b held) in
        let given : count_by (may_give g records may) (range_with_len 0 end) ≡ total (λ b. one_if (p b && not (is_among b held))) end =
        sum_of_range (λ b. one_if (may_give g records may b)) end
        ∙ total_same (λ b. one_if (may_give g records may b)) (λ b. one_if (p b && not (is_among b held))) end (λ b below.
        ap one_if (counted_alike (is_body g b) (is_clear_block g records b) (is_claimed r b) (may b) (is_among b held) (clear_block b))) in
        let inside : All (λ b. b < end) held =
        All-weaker (λ b. is_body g b ≡ true) (λ b. b < end) below_end held sound.apart.blocks_body in
        let passes : All (λ b. p b ≡ true) held = λ k d less.
        let b = slice_index_or held k d in
        and_from (is_unclaimed g r b) (may b || is_among b held)
        (and_from (is_body g b) (not (is_claimed r b)) (sound.apart.blocks_body k d less) (not_from_false (is_claimed r b) (sound.apart.blocks_free k d less)))
        (or_right (may b) (is_among b held) (among_self held k d less)) in
        ap (λ (n : ℕ). n + length held) given
        ∙ left_over p held end inside passes (λ b passed. times_apart b held sound.apart.blocks)
        ∙ sym (sum_of_range (λ b. one_if (p b)) end)

    pub left_chosen : filter (may_give g records may) (range_with_len 0 (blocks_of g)) ≡ blocks_left g r may hands
    left_chosen = filter_alike (may_give g records may) (λ b. is_unclaimed g r b && (may b && not (is_among b held))) 0 (blocks_of g) (λ b low below.
        left_alike (is_body g b) (is_clear_block g records b) (is_claimed r b) (may b) (is_among b held) (clear_block b))

  pub lowest_found : find (is_clear_inode g records) (range_with_len 2 (inodes_of g - 2)) ≡ lowest_inode g (tree_of g blocks) hands
  lowest_found = find_alike (is_clear_inode g records) (λ i. not (is_some (tree_of g blocks i)) && not (is_among i (held_inodes hands))) 2 (inodes_of g - 2) (λ i low below.
      clear_inode i low (omega (arith, low, below)))
