-- A reading in which the bits of a hand are set: what is stored, and what may follow.
use Rattle.std.proofs.Common.{◌≡◌, ◌<◌, ◌≤◌, inl, inr, ℕ, ◌+◌, ◌-◌, ◌*◌, ◌/◌, ◌%◌, Bool, true, false, not, ◌&&◌, ◌||◌, List, [], ◌∷◌, Option, Some, None, refl, sym, ap, ◌∙◌, arith}
use Rattle.std.specs.Prelude.{All, is_some, ◌==◌, nat_lt, if◌then◌else◌, slice_index_or}
use Rattle.std.specs.List.{list_any, count_by}
use Rattle.std.specs.Option.{option_map_or}
use Rattle.std.proofs.Math.Nat.{div-lt_iff_lt-mul, mod-lt}
use Rattle.std.proofs.lemmas.Bool.{cases_lt, both_ways, ltb-false, lt-ltb, and_from, and_right, not_from_true, false≢true}
use Rattle.std.proofs.lemmas.List.Folds.{list_any-append}
use Rattle.std.proofs.lemmas.List.Elements.{All-nil, filter_map-append}
use Rattle.lufs_base.specs.Layout.{IsGeometry, group_start, blocks_of, region_of}
use Rattle.lufs_base.specs.declared.geometry.Geometry.{Geometry}
use Rattle.lufs_base.specs.declared.geometry.Region.TheVariants.{GroupBlock}
use Rattle.lufs_base.specs.declared.delta.Delta.{Delta}
use Rattle.lufs_base.specs.declared.delta.DeltaKind.{DeltaKind}
use Rattle.lufs_base.specs.declared.delta.DeltaKind.TheVariants.{Group, Inode, Chunk, Pointers, Zero, LinkText, Cancel}
use Rattle.lufs_base.proofs.Places.{only_region}
use Rattle.volume_model.specs.declared.hand.Hand.{Hand}
use Rattle.volume_model.specs.Format.{is_body, GroupRecord, bit_at, inodes_of}
use Rattle.volume_model.specs.Log.{is_home_of, is_cancel}
use Rattle.volume_model.specs.Sound.{Reading, inodes_in, used_at, record_at, Claim, claims_of, claims_on, is_claimed, held_inodes, held_blocks, is_among, inode_bit, block_bit, has_right_counts, metadata_length, IsStored, HasRightLinks}
use Rattle.volume_laws.proofs.BodyBlocks.{none_before}
use Rattle.volume_laws.proofs.Counting.{one_if, of_one_among, times_apart}
use Rattle.volume_laws.proofs.ReadLengths.{records_read}
use Rattle.volume_laws.proofs.SameReading.{group_record_block}
use Rattle.change_laws.specs.Hands.{times}
use Rattle.change_laws.specs.Marks.{group_of_inode, group_of_block, place_of_block, IsFree}
use Rattle.change_laws.proofs.Counts.{times-append, holds_of}
use Rattle.change_laws.proofs.Places.{places_of_block, places_of_inode, HavePlaces, HaveBits, HasRightRecords, taken_block, taken_inode, places_of_stored, bits_of_stored, body_inside, stored_if, apart_of_places, once_of_places}
use Rattle.change_laws.proofs.SameHands.{inodes_of_both}
use Rattle.meta_store.specs.Suited.{suits_block}
use Rattle.meta_store.specs.Conditions.{StaysClaimed, MayFollow}
use Rattle.block_alloc.specs.Marks.{MarksRecord, marking}
use Rattle.block_alloc.proofs.HandPut.{inode_at_place, block_at_place}

-- a bit that is set where the hand has it
set_too : (used mine held : Bool) → (if mine then true else (used || held)) ≡ (used || (mine || held))
set_too true true held = refl
set_too true false held = refl
set_too false true held = refl
set_too false false held = refl

-- the group of a body block, and that of an inode
pub block_in_group : (g : Geometry) (b : ℕ) → IsGeometry g → is_body g b ≡ true → group_of_block g b < g.groups
block_in_group g b ok body = elim (cases_lt b (group_start g 0)) [
  | inl before ↦ absurd (both_ways (is_body g b) (none_before g ok b before) body)
  | inr low ↦
      let below : b - group_start g 0 < g.groups * g.bpg = omega (arith, low, body_inside g b body) in
      (div-lt_iff_lt-mul {k = g.bpg} (omega (arith, ok.bpg_low))).1 below
]

pub inode_in_group : (g : Geometry) (i : ℕ) → IsGeometry g → i < inodes_of g → group_of_inode g i < g.groups
inode_in_group g i ok within = (div-lt_iff_lt-mul {k = g.ipg} (omega (arith, ok.ipg_low))).1 within

-- the bits of a record after
block_bit_of : (g : Geometry) (n place : ℕ) (hand : Hand) (o p : Option GroupRecord) → MarksRecord g n hand o p → place < g.bpg
    → option_map_or (λ group. bit_at group.block_bits place) p false
    ≡ (if is_among (group_start g n + place) hand.blocks then true else option_map_or (λ group. bit_at group.block_bits place) o false)
block_bit_of g n place hand None p marks below = absurd marks
block_bit_of g n place hand (Some old) None marks below = absurd marks
block_bit_of g n place hand (Some old) (Some new) marks below = marks.1.block_bits place below

inode_bit_of : (g : Geometry) (n place : ℕ) (hand : Hand) (o p : Option GroupRecord) → MarksRecord g n hand o p → place < g.ipg
    → option_map_or (λ group. bit_at group.inode_bits place) p false
    ≡ (if is_among (n * g.ipg + place) (held_inodes (hand ∷ [])) then true else option_map_or (λ group. bit_at group.inode_bits place) o false)
inode_bit_of g n place hand None p marks below = absurd marks
inode_bit_of g n place hand (Some old) None marks below = absurd marks
inode_bit_of g n place hand (Some old) (Some new) marks below = marks.1.inode_bits place below

good_after : (g : Geometry) (n : ℕ) (hand : Hand) (o p : Option GroupRecord) → MarksRecord g n hand o p → not (is_some p) ≡ false
good_after g n hand None p marks = absurd marks
good_after g n hand (Some old) None marks = absurd marks
good_after g n hand (Some old) (Some new) marks = refl

counts_after : (g : Geometry) (n : ℕ) (hand : Hand) (o p : Option GroupRecord) → MarksRecord g n hand o p → option_map_or (λ group. not (has_right_counts g group)) p false ≡ false
counts_after g n hand None p marks = absurd marks
counts_after g n hand (Some old) None marks = absurd marks
counts_after g n hand (Some old) (Some new) marks = not_from_true (has_right_counts g new) marks.0

module _ (g : Geometry) (r : Reading) (groups : List (Option GroupRecord)) where
  -- the reading with other groups
  abbrev pub s : Reading
  s = record r { groups = groups }

  pub same_claims : claims_of s ≡ claims_of r
  unfolding claims_of
  same_claims = refl

  claims_same : (b : ℕ) → claims_on s b ≡ claims_on r b
  claims_same b = ap (λ (l : List Claim). count_by (λ claim. claim.block == b) l) same_claims

  pub claimed_same : (b : ℕ) → is_claimed s b ≡ is_claimed r b
  claimed_same b = ap (list_any (λ claim. claim.block == b)) same_claims

  module _ (hand : Hand) (ok : IsGeometry g) (size : inodes_in r ≡ inodes_of g)
      (marked : (m : ℕ) → m < g.groups → MarksRecord g m hand (record_at r m) (record_at s m)) where
    abbrev mine : List ℕ
    mine = held_inodes (hand ∷ [])

    pub block_bit_after : (b : ℕ) → is_body g b ≡ true → block_bit g s b ≡ (if is_among b hand.blocks then true else block_bit g r b)
    block_bit_after b body =
        let n = group_of_block g b in
        let place = place_of_block g b in
        let below : place < g.bpg = mod-lt (b - group_start g 0) (omega (arith, ok.bpg_low)) in
        block_bit_of g n place hand (record_at r n) (record_at s n) (marked n (block_in_group g b ok body)) below
        ∙ ap (λ (k : ℕ). if is_among k hand.blocks then true else block_bit g r b) (block_at_place g b n ok body refl)

    pub inode_bit_after : (i : ℕ) → i < inodes_in r → inode_bit g s i ≡ (if is_among i mine then true else inode_bit g r i)
    inode_bit_after i within =
        let n = group_of_inode g i in
        let below : i % g.ipg < g.ipg = mod-lt i (omega (arith, ok.ipg_low)) in
        inode_bit_of g n (i % g.ipg) hand (record_at r n) (record_at s n) (marked n (inode_in_group g i ok (omega (arith, within, size)))) below
        ∙ ap (λ (k : ℕ). if is_among k mine then true else inode_bit g r i) (inode_at_place g i n refl)

    module _ (hands : List Hand) (stored : IsStored g r hands) (free : IsFree g r hand) where
      bits : HaveBits g r hands
      bits = bits_of_stored g r hands stored

      among_inodes : (i : ℕ) → is_among i (held_inodes (hand ∷ hands)) ≡ (is_among i mine || is_among i (held_inodes hands))
      among_inodes i = ap (is_among i) (filter_map-append (λ (h : Hand). h.inode) (hand ∷ []) hands) ∙ list_any-append (λ m. m == i) mine (held_inodes hands)

      among_blocks : (b : ℕ) → is_among b (held_blocks (hand ∷ hands)) ≡ (is_among b hand.blocks || is_among b (held_blocks hands))
      among_blocks b = list_any-append (λ m. m == b) hand.blocks (held_blocks hands)

      -- what the hand takes had no place
      free_block : (b : ℕ) → 1 ≤ times b hand.blocks → places_of_block r hands b ≡ 0
      free_block b some =
          let body = holds_of (λ c. is_body g c ≡ true) hand.blocks b free.body some in
          let clear = holds_of (λ c. block_bit g r c ≡ false) hand.blocks b free.blocks_clear some in
          let none = ltb-false 0 (places_of_block r hands b) (sym (bits.blocks b body) ∙ clear) in
          omega (arith, none)

      free_inode : (i : ℕ) → 1 ≤ times i mine → places_of_inode r hands i ≡ 0
      free_inode i some =
          let usable = holds_of (λ j. (2 ≤ j) × (j < inodes_in r)) mine i free.usable some in
          let clear = holds_of (λ j. inode_bit g r j ≡ false) mine i free.inode_clear some in
          let none = ltb-false 0 (places_of_inode r hands i) (sym (bits.inodes i usable.0 usable.1) ∙ clear) in
          omega (arith, none)

      one_inode_at_most : (i : ℕ) (o : Option ℕ) → times i (held_inodes (record { inode = o; blocks = [] } ∷ [])) ≤ 1
      one_inode_at_most i None = omega arith
      one_inode_at_most i (Some j) = elim (j == i) as (λ t. 0 + one_if t ≤ 1) [ true ↦ omega arith | false ↦ omega arith ]

      places_then : HavePlaces g s (hand ∷ hands)
      places_then =
          let places = places_of_stored g r hands stored in
          let blocks : (b : ℕ) → times b (held_blocks (hand ∷ hands)) ≡ times b hand.blocks + times b (held_blocks hands) = λ b. times-append b hand.blocks (held_blocks hands) in
          let inodes : (i : ℕ) → times i (held_inodes (hand ∷ hands)) ≡ times i mine + times i (held_inodes hands) = inodes_of_both (hand ∷ []) hands in
          record {
            block_once = λ b. elim (cases_lt 0 (times b hand.blocks)) [
              | inl some ↦ omega (arith, claims_same b, blocks b, free_block b some, times_apart b hand.blocks free.apart)
              | inr none ↦ (let once = places.block_once b in omega (arith, claims_same b, blocks b, none, once))
            ];
            block_body = λ b some. elim (cases_lt 0 (times b hand.blocks)) [
              | inl taken ↦ holds_of (λ c. is_body g c ≡ true) hand.blocks b free.body taken
              | inr none ↦ places.block_body b (omega (arith, claims_same b, blocks b, none, some))
            ];
            inode_once = λ i. elim (cases_lt 0 (times i mine)) [
              | inl some ↦ omega (arith, inodes i, free_inode i some, one_inode_at_most i hand.inode)
              | inr none ↦ (let once = places.inode_once i in omega (arith, inodes i, none, once))
            ];
            inode_usable = λ i some. elim (cases_lt 0 (times i mine)) [
              | inl taken ↦ holds_of (λ j. (2 ≤ j) × (j < inodes_in r)) mine i free.usable taken
              | inr none ↦ places.inode_usable i (omega (arith, inodes i, none, some))
            ];
          }

      records_then : HasRightRecords g s
      records_then = record {
        groups = λ n within. good_after g n hand (record_at r n) (record_at s n) (marked n within);
        inodes = stored.inodes;
        numbers = stored.numbers;
        chunks = stored.chunks;
        counts = λ n within. counts_after g n hand (record_at r n) (record_at s n) (marked n within);
      }

      -- the hand joins the hands
      pub marked_stored : IsStored g s (hand ∷ hands)
      marked_stored = stored_if g s (hand ∷ hands) records_then (once_of_places g s (hand ∷ hands) places_then) (apart_of_places g s (hand ∷ hands) places_then)
          (λ i low within. inode_bit_after i within
          ∙ ap (λ (t : Bool). if is_among i mine then true else t) (bits.inodes i low within ∙ sym (taken_inode r hands i))
          ∙ set_too (is_some (used_at r i)) (is_among i mine) (is_among i (held_inodes hands))
          ∙ ap (λ (t : Bool). is_some (used_at r i) || t) (sym (among_inodes i)))
          (λ b body. block_bit_after b body
          ∙ ap (λ (t : Bool). if is_among b hand.blocks then true else t) (bits.blocks b body ∙ sym (taken_block r hands b))
          ∙ set_too (is_claimed r b) (is_among b hand.blocks) (is_among b (held_blocks hands))
          ∙ ap (λ (t : Bool). is_claimed r b || t) (sym (among_blocks b))
          ∙ ap (λ (t : Bool). t || is_among b (held_blocks (hand ∷ hands))) (sym (claimed_same b)))

  -- the links are as they were
  pub links_same : HasRightLinks r → HasRightLinks s
  links_same links = record { range = links.range; counted = links.counted }

-- what is read of metadata is by the inodes alone
module _ (g : Geometry) (r : Reading) (groups : List (Option GroupRecord)) where
  pub metadata_same : (b : ℕ) → metadata_length g (s g r groups) b ≡ metadata_length g r b
  unfolding metadata_length claims_of
  metadata_same b = refl

  suits_same : (kind : DeltaKind) (b : ℕ) → suits_block g (s g r groups) kind b ≡ suits_block g r kind b
  unfolding claims_of
  suits_same Group b = refl
  suits_same Inode b = refl
  suits_same Chunk b = refl
  suits_same Pointers b = refl
  suits_same Zero b = refl
  suits_same LinkText b = refl
  suits_same Cancel b = refl

  pub stays_claimed : (b : ℕ) → is_claimed r b ≡ true → StaysClaimed g r (s g r groups) b
  stays_claimed b is = record { claimed = claimed_same g r groups b ∙ is; kinds = λ kind. suits_same kind b; length = λ none. metadata_same b }

bits_taken : (among before after : Bool) → after ≡ (if among then true else before) → (among ≡ true → before ≡ false) → (not before && after) ≡ among
bits_taken true before after is clear = ap (λ (t : Bool). not t && after) (clear refl) ∙ is
bits_taken false true after is clear = refl
bits_taken false false after is clear = is

none_cleared : (among before after : Bool) → after ≡ (if among then true else before) → (before && not after) ≡ false
none_cleared true before after is = and_right before (not after) (ap not is)
none_cleared false true after is = ap not is
none_cleared false false after is = refl

-- a change of records of groups by which just these bits are set
pub marks_follow : (g : Geometry) (r : Reading) (groups : List (Option GroupRecord)) (hand : Hand) (deltas : List Delta) (taken : ℕ → Bool) → IsGeometry g → inodes_in r ≡ inodes_of g
    → ((m : ℕ) → m < g.groups → MarksRecord g m hand (record_at r m) (record_at (s g r groups) m)) → IsFree g r hand → All (λ d. (m : ℕ) × (m < g.groups) × (d.kind ≡ Group) × (d.home ≡ 4096 * group_start g m)) deltas
    → MayFollow g (marking deltas hand.blocks) taken r (s g r groups)
marks_follow g r groups hand deltas taken ok size marked free each =
    let after = s g r groups in
    let place : (d : Delta) (m : ℕ) → d.home ≡ 4096 * group_start g m → d.home / 4096 ≡ group_start g m = λ d m home. omega (arith, home) in
    record {
      raw_before = All-nil (λ w. metadata_length g r (w.first / 8) ≡ 0);
      raw_after = All-nil (λ w. metadata_length g after (w.first / 8) ≡ 0);
      deltas = λ k d inside lays.
          let is = each k d inside in
          let here = group_record_block g is.0 ok is.1 in
          let at = place (slice_index_or deltas k d) is.0 is.3 in
          omega (arith, records_read g after (group_start g is.0) 416 here.0 here.1, ap (metadata_length g after) at);
      suited = λ k d inside.
          let is = each k d inside in
          let e = slice_index_or deltas k d in
          let b = group_start g is.0 in
          let here = group_record_block g is.0 ok is.1 in
          let at = place e is.0 is.3 in
          let region : GroupBlock is.0 ≡ region_of g b = only_region g b (GroupBlock is.0) ok (is.1, refl) in
          let suited : suits_block g after Group b ≡ true = and_from (nat_lt b (blocks_of g)) (is_home_of Group (region_of g b)) (lt-ltb b (blocks_of g) here.0) (sym (ap (is_home_of Group) region)) in
          ap (λ (kind : DeltaKind). is_cancel kind || suits_block g after kind (e.home / 4096)) is.2 ∙ ap (suits_block g after Group) at ∙ suited;
      kept = λ b kept. omega (arith, metadata_same g r groups b);
      given = λ b at from below. absurd (omega (arith, from, below, metadata_same g r groups b));
      fresh = λ b none some. absurd (omega (arith, none, some, metadata_same g r groups b));
      stays = λ b is kept. stays_claimed g r groups b is;
      claimed = λ b none is. absurd (both_ways (is_claimed r b) none (sym (claimed_same g r groups b) ∙ is));
      marked = λ b is. absurd (false≢true is);
      bits = record {
        set = λ b body. bits_taken (is_among b hand.blocks) (block_bit g r b) (block_bit g after b) (block_bit_after g r groups hand ok size marked b body)
            (λ among. of_one_among b hand.blocks (λ c. block_bit g r c ≡ false) free.blocks_clear among);
        cleared = λ b body. none_cleared (is_among b hand.blocks) (block_bit g r b) (block_bit g after b) (block_bit_after g r groups hand ok size marked b body);
      };
    }
