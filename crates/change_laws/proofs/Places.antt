-- How many places claim or hold a block, or use or hold an inode. In a reading that is stored there is one at most, and the
-- bits say whether there is one.
use Rattle.std.proofs.Common.{◌≡◌, ◌<◌, ◌≤◌, inl, inr, ℕ, ◌+◌, Bool, true, false, not, ◌&&◌, ◌||◌, List, [], map, Option, Some, None, refl, sym, ap, ◌∙◌, arith}
use Rattle.std.specs.Prelude.{All, ◌==◌, nat_lt, nat_le, is_some, slice_get}
use Rattle.std.specs.List.{list_all, range_with_len}
use Rattle.std.specs.Option.{option_map_or, option_and_then}
use Rattle.std.proofs.lemmas.Bool.{cases_Bool, cases_lt, and_parts, ltb-true, ltb-false, lt-ltb, leb-false, le-ltb, lt-leb, le-leb, not-false, false≢true, and_left, and_right}
use Rattle.std.proofs.lemmas.List.Elements.{All-nil, All-map}
use Rattle.std.proofs.lemmas.List.Sums.{AllPass-from_list_all}
use Rattle.lufs_base.specs.Layout.{blocks_of, region_of}
use Rattle.lufs_base.specs.declared.geometry.Geometry.{Geometry}
use Rattle.volume_model.specs.declared.hand.Hand.{Hand}
use Rattle.volume_model.specs.Format.{is_body, is_body_region}
use Rattle.volume_model.specs.Sound.{UsedInode, InodeState, NoRecord, Unused, InUse, Reading, inodes_in, used_of, used_at, Claim, claims_in, claims_at, claims_of, claims_on, is_claimed, held_inodes, held_blocks, is_among, AreApart, is_bad_group, is_bad_state, is_bad_inode, has_right_numbers, has_bad_numbers, has_bad_bytes, inode_bit, block_bit, differ, has_bad_count, IsStored}
use Rattle.volume_laws.proofs.Members.{All_range, All_flat_map}
use Rattle.volume_laws.proofs.ClaimFacts.{used_within}
use Rattle.volume_laws.proofs.Counting.{one_if, times_apart, sum_of_map}
use Rattle.volume_laws.proofs.FreeBits.{same_answers}
use Rattle.change_laws.specs.Hands.{times}
use Rattle.change_laws.proofs.Counts.{any_counted, either_counted, among_counted, holds_of, holds_of_all, apart_if_once}

-- how many places claim or hold block b
abbrev pub places_of_block : Reading → List Hand → ℕ → ℕ
places_of_block r hands b = claims_on r b + times b (held_blocks hands)

-- how many use or hold inode i
abbrev pub places_of_inode : Reading → List Hand → ℕ → ℕ
places_of_inode r hands i = one_if (is_some (used_at r i)) + times i (held_inodes hands)

-- each block and each inode has one place at most, and those that have one are body blocks, and inodes from 2 on
pub record HavePlaces (g : Geometry) (r : Reading) (hands : List Hand) : Type 0 where
  pub block_once : (b : ℕ) → places_of_block r hands b ≤ 1
  pub block_body : (b : ℕ) → 1 ≤ places_of_block r hands b → is_body g b ≡ true
  pub inode_once : (i : ℕ) → places_of_inode r hands i ≤ 1
  pub inode_usable : (i : ℕ) → 1 ≤ places_of_inode r hands i → (2 ≤ i) × (i < inodes_in r)

-- the bits say which have a place
pub record HaveBits (g : Geometry) (r : Reading) (hands : List Hand) : Type 0 where
  pub inodes : (i : ℕ) → 2 ≤ i → i < inodes_in r → inode_bit g r i ≡ nat_lt 0 (places_of_inode r hands i)
  pub blocks : (b : ℕ) → is_body g b ≡ true → block_bit g r b ≡ nat_lt 0 (places_of_block r hands b)

-- each record of the reading is right by itself
pub record HasRightRecords (g : Geometry) (r : Reading) : Type 0 where
  pub groups : (n : ℕ) → n < g.groups → is_bad_group r n ≡ false
  pub inodes : (i : ℕ) → i < inodes_in r → is_bad_inode r i ≡ false
  pub numbers : (i : ℕ) → i < inodes_in r → has_bad_numbers g r i ≡ false
  pub chunks : (i : ℕ) → i < inodes_in r → has_bad_bytes r i ≡ false
  pub counts : (n : ℕ) → n < g.groups → has_bad_count g r n ≡ false

pub body_inside : (g : Geometry) (b : ℕ) → is_body g b ≡ true → b < blocks_of g
body_inside g b body = ltb-true b (blocks_of g) (and_parts (nat_lt b (blocks_of g)) (is_body_region (region_of g b)) body).0

one_if-some : (t : Bool) → nat_lt 0 (one_if t) ≡ t
one_if-some true = lt-ltb 0 1 (omega arith)
one_if-some false = refl

pub taken_block : (r : Reading) (hands : List Hand) (b : ℕ) → (is_claimed r b || is_among b (held_blocks hands)) ≡ nat_lt 0 (places_of_block r hands b)
taken_block r hands b =
    let claimed = any_counted (λ claim. claim.block == b) (claims_of r) in
    let held = among_counted b (held_blocks hands) in
    (λ t. claimed t || held t) ∙ either_counted (claims_on r b) (times b (held_blocks hands))

pub taken_inode : (r : Reading) (hands : List Hand) (i : ℕ) → (is_some (used_at r i) || is_among i (held_inodes hands)) ≡ nat_lt 0 (places_of_inode r hands i)
taken_inode r hands i =
    let used = sym (one_if-some (is_some (used_at r i))) in
    let held = among_counted i (held_inodes hands) in
    (λ t. used t || held t) ∙ either_counted (one_if (is_some (used_at r i))) (times i (held_inodes hands))

same_differ : (p q : Bool) → p ≡ q → differ p q ≡ false
same_differ true true same = refl
same_differ true false same = absurd (false≢true (sym same))
same_differ false q same = sym same

-- what is stored, where the bits say what is in use, claimed or held
pub stored_if : (g : Geometry) (r : Reading) (hands : List Hand) → HasRightRecords g r → ((b : ℕ) → claims_on r b ≤ 1) → AreApart g r hands
    → ((i : ℕ) → 2 ≤ i → i < inodes_in r → inode_bit g r i ≡ (is_some (used_at r i) || is_among i (held_inodes hands)))
    → ((b : ℕ) → is_body g b ≡ true → block_bit g r b ≡ (is_claimed r b || is_among b (held_blocks hands))) → IsStored g r hands
stored_if g r hands records once apart inodes blocks = record {
  groups = records.groups;
  inodes = records.inodes;
  numbers = records.numbers;
  once = λ b within. lt-leb 2 (claims_on r b) (omega (arith, once b));
  chunks = records.chunks;
  inode_bits = λ i within. elim (cases_lt i 2) [
    | inl low ↦ and_left (nat_le 2 i) (differ (inode_bit g r i) (is_some (used_at r i) || is_among i (held_inodes hands))) (lt-leb 2 i low)
    | inr high ↦
        and_right (nat_le 2 i) (differ (inode_bit g r i) (is_some (used_at r i) || is_among i (held_inodes hands)))
        (same_differ (inode_bit g r i) (is_some (used_at r i) || is_among i (held_inodes hands)) (inodes i high within))
  ];
  block_bits = λ b within. elim (cases_Bool (is_body g b)) [
    | inl body ↦
        and_right (is_body g b) (differ (block_bit g r b) (is_claimed r b || is_among b (held_blocks hands)))
        (same_differ (block_bit g r b) (is_claimed r b || is_among b (held_blocks hands)) (blocks b body))
    | inr other ↦ and_left (is_body g b) (differ (block_bit g r b) (is_claimed r b || is_among b (held_blocks hands))) other
  ];
  counts = records.counts;
  apart = apart;
}

-- the claims of an inode whose numbers are right
pub bodies_of : (g : Geometry) (i : ℕ) (u : UsedInode) → has_right_numbers g i u ≡ true → list_all (λ claim. is_body g claim.block) (claims_in i u) ≡ true
bodies_of g i u right =
    let four = and_parts _ _ right in
    let three = and_parts _ _ four.0 in
    let two = and_parts _ _ three.0 in
    (and_parts _ _ two.0).1

claims_of_right : (g : Geometry) (i : ℕ) (o : Option UsedInode) → option_map_or (λ u. not (has_right_numbers g i u)) o false ≡ false
    → All (λ claim. is_body g claim.block ≡ true) (option_map_or (claims_in i) o [])
claims_of_right g i None right = All-nil (λ (claim : Claim). is_body g claim.block ≡ true)
claims_of_right g i (Some u) right =
    AllPass-from_list_all (λ claim. is_body g claim.block) (claims_in i u) (bodies_of g i u (not-false (has_right_numbers g i u) right))

-- an inode in use of a right state
used_usable : (i : ℕ) (s : Option InodeState) → is_bad_state i s ≡ false → is_some (option_and_then used_of s) ≡ true → 2 ≤ i
used_usable i None right used = absurd (false≢true used)
used_usable i (Some NoRecord) right used = absurd (false≢true used)
used_usable i (Some Unused) right used = absurd (false≢true used)
used_usable i (Some (InUse u)) right used = let least = ltb-false i 2 right in omega (arith, least)

some_of : (o : Option UsedInode) → is_some o ≡ true → (u : UsedInode) × (o ≡ Some u)
some_of None there = absurd (false≢true there)
some_of (Some u) there = (u, refl)

pub none_of : (o : Option UsedInode) → is_some o ≡ false → o ≡ None
none_of None none = refl
none_of (Some u) none = absurd (false≢true (sym none))

module _ (g : Geometry) (r : Reading) (hands : List Hand) (stored : IsStored g r hands) where
  pub records_of_stored : HasRightRecords g r
  records_of_stored = record {
    groups = stored.groups;
    inodes = stored.inodes;
    numbers = stored.numbers;
    chunks = stored.chunks;
    counts = stored.counts;
  }

  pub claims_bodies : All (λ claim. is_body g claim.block ≡ true) (claims_of r)
  unfolding claims_of
  claims_bodies =
      All_flat_map (λ claim. is_body g claim.block ≡ true) (claims_at r) (range_with_len 0 (inodes_in r))
      (All_range (λ i. All (λ claim. is_body g claim.block ≡ true) (claims_at r i)) (inodes_in r) (λ i within.
      claims_of_right g i (used_at r i) (stored.numbers i within)))

  -- the blocks that are claimed, as numbers
  abbrev claimed : List ℕ
  claimed = map (λ claim. claim.block) (claims_of r)

  claimed_times : (b : ℕ) → times b claimed ≡ claims_on r b
  claimed_times b = sum_of_map (λ m. one_if (m == b)) (λ claim. claim.block) (claims_of r)

  claimed_body : (b : ℕ) → 1 ≤ claims_on r b → is_body g b ≡ true
  claimed_body b some =
      holds_of (λ c. is_body g c ≡ true) claimed b (All-map (λ c. is_body g c ≡ true) (λ (claim : Claim). claim.block) (claims_of r) claims_bodies)
      (omega (arith, some, claimed_times b))

  pub claimed_once : (b : ℕ) → claims_on r b ≤ 1
  claimed_once b = elim (cases_lt 0 (claims_on r b)) [
    | inl some ↦
        let few = leb-false 2 (claims_on r b) (stored.once b (body_inside g b (claimed_body b some))) in
        omega (arith, few)
    | inr none ↦ omega (arith, none)
  ]

  held_unclaimed : (b : ℕ) → 1 ≤ times b (held_blocks hands) → claims_on r b ≡ 0
  held_unclaimed b some =
      let free : is_claimed r b ≡ false = holds_of (λ c. is_claimed r c ≡ false) (held_blocks hands) b stored.apart.blocks_free some in
      let none = ltb-false 0 (claims_on r b) (sym (any_counted (λ claim. claim.block == b) (claims_of r)) ∙ free) in
      omega (arith, none)

  held_unused : (i : ℕ) → 1 ≤ times i (held_inodes hands) → one_if (is_some (used_at r i)) ≡ 0
  held_unused i some =
      ap (λ (o : Option UsedInode). one_if (is_some o)) (holds_of (λ j. used_at r j ≡ None) (held_inodes hands) i stored.apart.inodes_free some)

  pub places_of_stored : HavePlaces g r hands
  places_of_stored = record {
    block_once = λ b. elim (cases_lt 0 (times b (held_blocks hands))) [
      | inl held ↦ omega (arith, held_unclaimed b held, times_apart b (held_blocks hands) stored.apart.blocks)
      | inr none ↦ omega (arith, none, claimed_once b)
    ];
    block_body = λ b some. elim (cases_lt 0 (times b (held_blocks hands))) [
      | inl held ↦ holds_of (λ c. is_body g c ≡ true) (held_blocks hands) b stored.apart.blocks_body held
      | inr none ↦ claimed_body b (omega (arith, some, none))
    ];
    inode_once = λ i. elim (cases_lt 0 (times i (held_inodes hands))) [
      | inl held ↦ omega (arith, held_unused i held, times_apart i (held_inodes hands) stored.apart.inodes)
      | inr none ↦ elim (cases_Bool (is_some (used_at r i))) [
        | inl used ↦ (let one : one_if (is_some (used_at r i)) ≡ 1 = ap one_if used in omega (arith, one, none))
        | inr unused ↦ (let zero : one_if (is_some (used_at r i)) ≡ 0 = ap one_if unused in omega (arith, zero, none))
      ]
    ];
    inode_usable = λ i some. elim (cases_lt 0 (times i (held_inodes hands))) [
      | inl held ↦ holds_of (λ j. (2 ≤ j) × (j < inodes_in r)) (held_inodes hands) i stored.apart.inodes_usable held
      | inr none ↦ elim (cases_Bool (is_some (used_at r i))) [
        | inl used ↦
            let there = some_of (used_at r i) used in
            let within : i < inodes_in r = used_within r i there.0 there.1 in
            (used_usable i (slice_get r.inodes i) (stored.inodes i within) used, within)
        | inr unused ↦ (let zero : one_if (is_some (used_at r i)) ≡ 0 = ap one_if unused in absurd (omega (arith, zero, none, some)))
      ]
    ];
  }

  pub bits_of_stored : HaveBits g r hands
  bits_of_stored = record {
    inodes = λ i low within.
        let answer = is_some (used_at r i) || is_among i (held_inodes hands) in
        same_answers (inode_bit g r i) answer (ap (λ (t : Bool). t && differ (inode_bit g r i) answer) (sym (le-leb 2 i low)) ∙ stored.inode_bits i within)
        ∙ taken_inode r hands i;
    blocks = λ b body.
        let answer = is_claimed r b || is_among b (held_blocks hands) in
        same_answers (block_bit g r b) answer (ap (λ (t : Bool). t && differ (block_bit g r b) answer) (sym body) ∙ stored.block_bits b (body_inside g b body))
        ∙ taken_block r hands b;
  }

module _ (g : Geometry) (r : Reading) (hands : List Hand) (places : HavePlaces g r hands) where
  -- what is held is free, where each has one place at most
  pub apart_of_places : AreApart g r hands
  apart_of_places = record {
    inodes = apart_if_once (held_inodes hands) (λ i. let once = places.inode_once i in omega (arith, once));
    blocks = apart_if_once (held_blocks hands) (λ b. let once = places.block_once b in omega (arith, once));
    inodes_usable = holds_of_all (λ i. (2 ≤ i) × (i < inodes_in r)) (held_inodes hands) (λ i held. places.inode_usable i (omega (arith, held)));
    inodes_free = holds_of_all (λ i. used_at r i ≡ None) (held_inodes hands) (λ i held. none_of (used_at r i) (elim (cases_Bool (is_some (used_at r i))) [
      | inl used ↦
          let one : one_if (is_some (used_at r i)) ≡ 1 = ap one_if used in
          let once = places.inode_once i in
          absurd (omega (arith, one, held, once))
      | inr unused ↦ unused
    ]));
    blocks_body = holds_of_all (λ b. is_body g b ≡ true) (held_blocks hands) (λ b held. places.block_body b (omega (arith, held)));
    blocks_free = holds_of_all (λ b. is_claimed r b ≡ false) (held_blocks hands) (λ b held.
        let once = places.block_once b in
        any_counted (λ claim. claim.block == b) (claims_of r) ∙ le-ltb 0 (claims_on r b) (omega (arith, held, once)));
  }

  pub once_of_places : (b : ℕ) → claims_on r b ≤ 1
  once_of_places b = let once = places.block_once b in omega (arith, once)

  pub stored_of_places : HasRightRecords g r → HaveBits g r hands → IsStored g r hands
  stored_of_places records bits = stored_if g r hands records once_of_places apart_of_places
      (λ i low within. bits.inodes i low within ∙ sym (taken_inode r hands i))
      (λ b body. bits.blocks b body ∙ sym (taken_block r hands b))
