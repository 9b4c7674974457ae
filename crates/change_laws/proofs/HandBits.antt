-- The record of a group with the bits of one hand set, or cleared: what its bits say.
use Rattle.std.proofs.Common.{◌≡◌, ◌≢◌, ◌<◌, ◌≤◌, inl, inr, ℕ, ◌+◌, ◌-◌, ◌*◌, ◌/◌, ◌%◌, Bool, true, false, ◌||◌, if◌then◌else◌, List, [], ◌∷◌, Option, Some, None, refl, sym, ap, ◌∙◌, arith}
use Rattle.std.specs.Prelude.{is_some, nat_lt, ◌==◌}
use Rattle.std.specs.Option.{option_map_or}
use Rattle.std.proofs.Math.Nat.{div-add-mod', mod-lt}
use Rattle.std.proofs.lemmas.Bool.{cases_lt, ltb-false, false_from_ne_true, both_ways}
use Rattle.std.proofs.lemmas.List.Folds.{list_any-append}
use Rattle.std.proofs.lemmas.List.Elements.{filter_map-append}
use Rattle.lufs_base.specs.Layout.{IsGeometry, group_start}
use Rattle.lufs_base.specs.declared.geometry.Geometry.{Geometry}
use Rattle.volume_model.specs.declared.hand.Hand.{Hand}
use Rattle.volume_model.specs.Format.{is_body, GroupRecord, bit_at}
use Rattle.volume_model.specs.Sound.{Reading, inodes_in, used_at, record_at, is_claimed, held_inodes, held_blocks, is_among, inode_bit, block_bit, has_right_counts, IsStored}
use Rattle.volume_laws.proofs.BodyBlocks.{none_before}
use Rattle.volume_laws.proofs.Counting.{one_if, of_one_among, times_some, times_apart}
use Rattle.change_laws.specs.Hands.{times}
use Rattle.change_laws.specs.Marks.{group_of_inode, group_of_block, place_of_block, Marks, IsOfGroup, IsFree, HasHandPut}
use Rattle.change_laws.proofs.Counts.{times-append, holds_of}
use Rattle.change_laws.proofs.Places.{places_of_block, places_of_inode, HavePlaces, HaveBits, taken_block, taken_inode, places_of_stored, bits_of_stored, apart_of_places}
use Rattle.change_laws.proofs.SameHands.{inodes_of_both}

-- a bit that is set where the hand has it
set_too : (used mine held : Bool) → (if mine then true else (used || held)) ≡ (used || (mine || held))
set_too true true held = refl
set_too true false held = refl
set_too false true held = refl
set_too false false held = refl

-- one that is cleared there
cleared_too : (used mine held : Bool) → (mine ≡ true → (used || held) ≡ false) → (if mine then false else (used || (mine || held))) ≡ (used || held)
cleared_too used true held free = sym (free refl)
cleared_too used false held free = refl

-- an inode and its place in its group
inode_place : (g : Geometry) (i n : ℕ) → IsGeometry g → group_of_inode g i ≡ n → (i % g.ipg < g.ipg) × (n * g.ipg + i % g.ipg ≡ i)
inode_place g i n ok group =
    let some : 0 < g.ipg = omega (arith, ok.ipg_low) in
    (mod-lt i some, ap (λ (k : ℕ). k * g.ipg + i % g.ipg) (sym group) ∙ div-add-mod' i g.ipg)

-- the same of a body block
block_place : (g : Geometry) (b n : ℕ) → IsGeometry g → is_body g b ≡ true → group_of_block g b ≡ n → (place_of_block g b < g.bpg) × (group_start g n + place_of_block g b ≡ b)
block_place g b n ok body group =
    let some : 0 < g.bpg = omega (arith, ok.bpg_low) in
    let away = b - group_start g 0 in
    let parts : away / g.bpg * g.bpg + away % g.bpg ≡ away = div-add-mod' away g.bpg in
    let mine : n * g.bpg + away % g.bpg ≡ away = ap (λ (k : ℕ). k * g.bpg + away % g.bpg) (sym group) ∙ parts in
    let low : group_start g 0 ≤ b = elim (cases_lt b (group_start g 0)) [
      | inl before ↦ absurd (both_ways (is_body g b) (none_before g ok b before) body)
      | inr after ↦ after
    ] in
    (mod-lt away some, omega (arith, mine, low))

module _ (g : Geometry) (r : Reading) (n : ℕ) (hand : Hand) (hands : List Hand) (old new : GroupRecord) (ok : IsGeometry g) (within : n < g.groups)
    (record_is : record_at r n ≡ Some old) (counts : has_right_counts g new ≡ true) (of_group : IsOfGroup g n hand) where
  abbrev mine : List ℕ
  mine = held_inodes (hand ∷ [])

  -- what the bits of the old record say
  old_inode_bit : (i : ℕ) → group_of_inode g i ≡ n → bit_at old.inode_bits (i % g.ipg) ≡ inode_bit g r i
  old_inode_bit i group =
      let bit : Option GroupRecord → Bool = λ o. option_map_or (λ group. bit_at group.inode_bits (i % g.ipg)) o false in
      sym (ap (λ (m : ℕ). bit (record_at r m)) group ∙ ap bit record_is)

  old_block_bit : (b : ℕ) → group_of_block g b ≡ n → bit_at old.block_bits (place_of_block g b) ≡ block_bit g r b
  old_block_bit b group =
      let bit : Option GroupRecord → Bool = λ o. option_map_or (λ group. bit_at group.block_bits (place_of_block g b)) o false in
      sym (ap (λ (m : ℕ). bit (record_at r m)) group ∙ ap bit record_is)

  new_inode_bit : (value : Bool) → HasHandPut g n value hand old new → (i : ℕ) → group_of_inode g i ≡ n
      → bit_at new.inode_bits (i % g.ipg) ≡ (if is_among i mine then value else inode_bit g r i)
  new_inode_bit value put i group =
      let place = inode_place g i n ok group in
      put.inode_bits (i % g.ipg) place.0 ∙ ap (λ (k : ℕ). if is_among k mine then value else bit_at old.inode_bits (i % g.ipg)) place.1
      ∙ ap (λ (t : Bool). if is_among i mine then value else t) (old_inode_bit i group)

  new_block_bit : (value : Bool) → HasHandPut g n value hand old new → (b : ℕ) → is_body g b ≡ true → group_of_block g b ≡ n
      → bit_at new.block_bits (place_of_block g b) ≡ (if is_among b hand.blocks then value else block_bit g r b)
  new_block_bit value put b body group =
      let place = block_place g b n ok body group in
      put.block_bits (place_of_block g b) place.0 ∙ ap (λ (k : ℕ). if is_among k hand.blocks then value else bit_at old.block_bits (place_of_block g b)) place.1
      ∙ ap (λ (t : Bool). if is_among b hand.blocks then value else t) (old_block_bit b group)

  among_inodes : (i : ℕ) → is_among i (held_inodes (hand ∷ hands)) ≡ (is_among i mine || is_among i (held_inodes hands))
  among_inodes i = ap (is_among i) (filter_map-append (λ (h : Hand). h.inode) (hand ∷ []) hands) ∙ list_any-append (λ m. m == i) mine (held_inodes hands)

  among_blocks : (b : ℕ) → is_among b (held_blocks (hand ∷ hands)) ≡ (is_among b hand.blocks || is_among b (held_blocks hands))
  among_blocks b = list_any-append (λ m. m == b) hand.blocks (held_blocks hands)

  -- the hand has nothing of another group
  no_inode : (i : ℕ) → group_of_inode g i ≢ n → is_among i mine ≡ false
  no_inode i away = false_from_ne_true (is_among i mine) (λ among. away (of_one_among i mine (λ j. group_of_inode g j ≡ n) of_group.inode among))

  no_block : (b : ℕ) → group_of_block g b ≢ n → is_among b hand.blocks ≡ false
  no_block b away = false_from_ne_true (is_among b hand.blocks) (λ among. away (of_one_among b hand.blocks (λ c. group_of_block g c ≡ n) of_group.blocks among))

  other_inode : (i : ℕ) → group_of_inode g i ≢ n → is_among i (held_inodes (hand ∷ hands)) ≡ is_among i (held_inodes hands)
  other_inode i away = among_inodes i ∙ ap (λ (t : Bool). t || is_among i (held_inodes hands)) (no_inode i away)

  other_block : (b : ℕ) → group_of_block g b ≢ n → is_among b (held_blocks (hand ∷ hands)) ≡ is_among b (held_blocks hands)
  other_block b away = among_blocks b ∙ ap (λ (t : Bool). t || is_among b (held_blocks hands)) (no_block b away)

  module _ (stored : IsStored g r hands) (free : IsFree g r hand) (put : HasHandPut g n true hand old new) where
    bits : HaveBits g r hands
    bits = bits_of_stored g r hands stored

    -- what the hand takes had no place
    free_block : (b : ℕ) → 1 ≤ times b hand.blocks → places_of_block r hands b ≡ 0
    free_block b some =
        let body = holds_of (λ c. is_body g c ≡ true) hand.blocks b free.body some in
        let clear = holds_of (λ c. block_bit g r c ≡ false) hand.blocks b free.blocks_clear some in
        let none = ltb-false 0 (places_of_block r hands b) (sym (bits.blocks b body) ∙ clear) in
        omega (arith, none)

    free_inode : (i : ℕ) → 1 ≤ times i mine → places_of_inode r hands i ≡ 0
    free_inode i some =
        let usable = holds_of (λ j. (2 ≤ j) × (j < inodes_in r)) mine i free.usable some in
        let clear = holds_of (λ j. inode_bit g r j ≡ false) mine i free.inode_clear some in
        let none = ltb-false 0 (places_of_inode r hands i) (sym (bits.inodes i usable.0 usable.1) ∙ clear) in
        omega (arith, none)

    one_inode_at_most : (i : ℕ) (o : Option ℕ) → times i (held_inodes (record { inode = o; blocks = [] } ∷ [])) ≤ 1
    one_inode_at_most i None = omega arith
    one_inode_at_most i (Some j) = elim (j == i) as (λ t. 0 + one_if t ≤ 1) [ true ↦ omega arith | false ↦ omega arith ]

    places_then : HavePlaces g r (hand ∷ hands)
    places_then =
        let places = places_of_stored g r hands stored in
        let blocks : (b : ℕ) → times b (held_blocks (hand ∷ hands)) ≡ times b hand.blocks + times b (held_blocks hands) = λ b. times-append b hand.blocks (held_blocks hands) in
        let inodes : (i : ℕ) → times i (held_inodes (hand ∷ hands)) ≡ times i mine + times i (held_inodes hands) = inodes_of_both (hand ∷ []) hands in
        record {
          block_once = λ b. elim (cases_lt 0 (times b hand.blocks)) [
            | inl some ↦ omega (arith, blocks b, free_block b some, times_apart b hand.blocks free.apart)
            | inr none ↦ (let once = places.block_once b in omega (arith, blocks b, none, once))
          ];
          block_body = λ b some. elim (cases_lt 0 (times b hand.blocks)) [
            | inl taken ↦ holds_of (λ c. is_body g c ≡ true) hand.blocks b free.body taken
            | inr none ↦ places.block_body b (omega (arith, blocks b, none, some))
          ];
          inode_once = λ i. elim (cases_lt 0 (times i mine)) [
            | inl some ↦ omega (arith, inodes i, free_inode i some, one_inode_at_most i hand.inode)
            | inr none ↦ (let once = places.inode_once i in omega (arith, inodes i, none, once))
          ];
          inode_usable = λ i some. elim (cases_lt 0 (times i mine)) [
            | inl taken ↦ holds_of (λ j. (2 ≤ j) × (j < inodes_in r)) mine i free.usable taken
            | inr none ↦ places.inode_usable i (omega (arith, inodes i, none, some))
          ];
        }

    pub taken_marks : Marks g r n new hands (hand ∷ hands)
    taken_marks = record {
      within = within;
      counts = counts;
      apart = apart_of_places g r (hand ∷ hands) places_then;
      inode_bits = λ i low inside group.
          new_inode_bit true put i group
          ∙ ap (λ (t : Bool). if is_among i mine then true else t) (bits.inodes i low inside ∙ sym (taken_inode r hands i))
          ∙ set_too (is_some (used_at r i)) (is_among i mine) (is_among i (held_inodes hands))
          ∙ ap (λ (t : Bool). is_some (used_at r i) || t) (sym (among_inodes i));
      block_bits = λ b body group.
          new_block_bit true put b body group
          ∙ ap (λ (t : Bool). if is_among b hand.blocks then true else t) (bits.blocks b body ∙ sym (taken_block r hands b))
          ∙ set_too (is_claimed r b) (is_among b hand.blocks) (is_among b (held_blocks hands))
          ∙ ap (λ (t : Bool). is_claimed r b || t) (sym (among_blocks b));
      other_inodes = λ i low inside away. other_inode i away;
      other_blocks = λ b body away. other_block b away;
    }

  module _ (stored : IsStored g r (hand ∷ hands)) (put : HasHandPut g n false hand old new) where
    places : HavePlaces g r (hand ∷ hands)
    places = places_of_stored g r (hand ∷ hands) stored

    bits_before : HaveBits g r (hand ∷ hands)
    bits_before = bits_of_stored g r (hand ∷ hands) stored

    places_left : HavePlaces g r hands
    places_left =
        let blocks : (b : ℕ) → times b (held_blocks (hand ∷ hands)) ≡ times b hand.blocks + times b (held_blocks hands) = λ b. times-append b hand.blocks (held_blocks hands) in
        let inodes : (i : ℕ) → times i (held_inodes (hand ∷ hands)) ≡ times i mine + times i (held_inodes hands) = inodes_of_both (hand ∷ []) hands in
        record {
          block_once = λ b. (let once = places.block_once b in omega (arith, once, blocks b));
          block_body = λ b some. places.block_body b (omega (arith, some, blocks b));
          inode_once = λ i. (let once = places.inode_once i in omega (arith, once, inodes i));
          inode_usable = λ i some. places.inode_usable i (omega (arith, some, inodes i));
        }

    -- what the hand holds has no other place
    alone_block : (b : ℕ) → is_among b hand.blocks ≡ true → (is_claimed r b || is_among b (held_blocks hands)) ≡ false
    alone_block b among =
        let once = places.block_once b in
        let none : places_of_block r hands b ≡ 0 = omega (arith, once, times_some b hand.blocks among, times-append b hand.blocks (held_blocks hands)) in
        taken_block r hands b ∙ ap (λ (k : ℕ). nat_lt 0 k) none

    alone_inode : (i : ℕ) → is_among i mine ≡ true → (is_some (used_at r i) || is_among i (held_inodes hands)) ≡ false
    alone_inode i among =
        let once = places.inode_once i in
        let none : places_of_inode r hands i ≡ 0 = omega (arith, once, times_some i mine among, inodes_of_both (hand ∷ []) hands i) in
        taken_inode r hands i ∙ ap (λ (k : ℕ). nat_lt 0 k) none

    pub back_marks : Marks g r n new (hand ∷ hands) hands
    back_marks = record {
      within = within;
      counts = counts;
      apart = apart_of_places g r hands places_left;
      inode_bits = λ i low inside group.
          new_inode_bit false put i group
          ∙ ap (λ (t : Bool). if is_among i mine then false else t) (bits_before.inodes i low inside ∙ sym (taken_inode r (hand ∷ hands) i))
          ∙ ap (λ (t : Bool). if is_among i mine then false else (is_some (used_at r i) || t)) (among_inodes i)
          ∙ cleared_too (is_some (used_at r i)) (is_among i mine) (is_among i (held_inodes hands)) (alone_inode i);
      block_bits = λ b body group.
          new_block_bit false put b body group
          ∙ ap (λ (t : Bool). if is_among b hand.blocks then false else t) (bits_before.blocks b body ∙ sym (taken_block r (hand ∷ hands) b))
          ∙ ap (λ (t : Bool). if is_among b hand.blocks then false else (is_claimed r b || t)) (among_blocks b)
          ∙ cleared_too (is_claimed r b) (is_among b hand.blocks) (is_among b (held_blocks hands)) (alone_block b);
      other_inodes = λ i low inside away. sym (other_inode i away);
      other_blocks = λ b body away. sym (other_block b away);
    }
