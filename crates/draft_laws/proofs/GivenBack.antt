-- A hand of blocks that are given up, and perhaps of an inode, is put back: its blocks are freed, and its bits cleared.
use Rattle.std.proofs.Common.{◌≡◌, ◌≢◌, ◌<◌, ◌≤◌, inl, inr, ℕ, ◌*◌, ◌/◌, ◌%◌, max, eqb, Bool, true, false, not, ◌&&◌, ◌||◌, List, [], ◌∷◌, ◌++◌, map, take, drop, Option, Some, refl, sym, ap, ◌∙◌, subst, arith}
use Rattle.std.specs.Prelude.{All, nat_lt, slice_index_or}
use Rattle.std.specs.List.{Contains, list_any}
use Rattle.std.proofs.lemmas.Bool.{cases_Bool, cases_eq, true≢false, both_ways, or_left, or_right, or_cases, and_left, and_right, and_parts, and_from, eq-eqb, eqb-true, ltb-true, ne_eqb}
use Rattle.std.proofs.lemmas.List.Folds.{list_any-append, list_any_none}
use Rattle.std.proofs.lemmas.List.Elements.{All-nil, All-cons, All-weaker, All-contains, Contains-get_or}
use Rattle.lufs_base.specs.Layout.{group_start}
use Rattle.lufs_base.specs.declared.geometry.Geometry.{Geometry}
use Rattle.lufs_base.specs.declared.delta.Delta.{Delta}
use Rattle.lufs_base.specs.declared.delta.DeltaKind.{DeltaKind}
use Rattle.lufs_base.specs.declared.delta.DeltaKind.TheVariants.{Chunk}
use Rattle.volume_model.specs.declared.hand.Hand.{Hand}
use Rattle.volume_model.specs.Format.{Image, Blocks, block, is_body, GroupRecord, IsGroup, group_of, group_bytes}
use Rattle.volume_model.specs.Log.{is_cancel}
use Rattle.volume_model.specs.Sound.{Reading, reading_of, group_at, record_at, used_at, Claim, is_claimed, IsLaid, IsStored, held_blocks, is_among, block_bit, has_right_counts, metadata_claim_length, greatest_on, length_of_records, metadata_length, read_length, tree_of}
use Rattle.volume_laws.specs.Changes.{AgreeBut, AgreeWhereReadBut, AgreeInMetadataBut, with_group}
use Rattle.volume_laws.proofs.Members.{Contains_map}
use Rattle.volume_laws.proofs.ClaimFacts.{claims_its_block}
use Rattle.volume_laws.proofs.Counting.{of_one_among, times_apart}
use Rattle.volume_laws.proofs.GroupRecords.{group_back}
use Rattle.volume_laws.proofs.StoredClaims.{stored_is_laid}
use Rattle.volume_laws.proofs.LaidClaims.{body_of_claim}
use Rattle.volume_laws.proofs.LessAgreement.{agree_in_metadata_but}
use Rattle.volume_laws.proofs.RecordChanges.{only_group, claims_beside_group}
use Rattle.volume_laws.proofs.OneEntry.{one_group, tree_beside}
use Rattle.volume_laws.proofs.UnclaimedBlocks.{nothing_read}
use Rattle.change_laws.specs.Hands.{times}
use Rattle.change_laws.specs.Marks.{IsOfGroup, HasHandPut}
use Rattle.change_laws.proofs.Counts.{times-append, among_counted}
use Rattle.change_laws.proofs.OneGroup.{mark_stored, same_claims}
use Rattle.change_laws.proofs.HandBits.{back_marks}
use Rattle.meta_store.specs.declared.change.Change.{Change}
use Rattle.meta_store.specs.declared.change.Freed.{Freed}
use Rattle.meta_store.specs.declared.change.RawWrite.{RawWrite}
use Rattle.meta_store.specs.Changes.{frees, frees_metadata}
use Rattle.meta_store.specs.Conditions.{HasBitsOf, is_given, StaysClaimed, ComesClaimed, IsGivenUp}
use Rattle.meta_store.specs.Suited.{suits_claim, suits_block, suits}
use Rattle.meta_store.proofs.MergedTable.{IsLoggable}
use Rattle.meta_store.specs.Deltas.{group_delta}
use Rattle.meta_draft.specs.Drafted.{drafted_blocks, with_delta, with_freed}
use Rattle.draft_laws.specs.Laying.{with_laid}
use Rattle.draft_laws.specs.Follows.{is_loose, FollowsSoFar}
use Rattle.draft_laws.specs.Drafts.{IsDraft}
use Rattle.draft_laws.specs.Freeing.{with_all_freed, GivesUp, KeepsTree}
use Rattle.draft_laws.proofs.ClaimUses.{passes_of, some_passes, claim_of, kinds_by_claims}
use Rattle.draft_laws.proofs.SuitedBeside.{where_suited, no_body, Suitable}
use Rattle.draft_laws.proofs.MetadataLengths.{suited_some, at_most_a_block}
use Rattle.draft_laws.proofs.Continues.{bit_says, held_free, none_of_free, freed_metadata}
use Rattle.draft_laws.proofs.Contents.{AreSized, drafted_sized, agree_but, agree_through, there}
use Rattle.draft_laws.proofs.RecordDeltas.{group_loggable, group_suited}
use Rattle.draft_laws.proofs.Merging.{FitsIn, OneMore, one_more}
use Rattle.draft_laws.proofs.FreedBlocks.{IsWell, MayFree, WellSoFar, LeavesOthers, all_freed}

or_false : (x : Bool) → (x || false) ≡ x
or_false true = refl
or_false false = refl

or_none_both : (x y : Bool) → (x || y) ≡ false → (x ≡ false) × (y ≡ false)
or_none_both true y none = absurd (true≢false none)
or_none_both false y none = (refl, none)

-- blocks that aren't among those freed
pub others_of : (freed : List Freed) (b : ℕ) → is_among b (map (λ f. f.block.0) freed) ≡ false → All (λ f. b ≢ f.block.0) freed
others_of [] b none = All-nil (λ (f : Freed). b ≢ f.block.0)
others_of (f ∷ freed) b none =
    let parts = or_none_both (eqb f.block.0 b) (is_among b (map (λ h. h.block.0) freed)) none in
    All-cons (λ (h : Freed). b ≢ h.block.0) f freed (λ same. true≢false (sym (eq-eqb f.block.0 b (sym same)) ∙ parts.0)) (others_of freed b parts.1)

-- the test of all freed blocks is that of their numbers
pub freed_among : (freed : List Freed) (b : ℕ) → list_any (λ f. eqb f.block.0 b) freed ≡ is_among b (map (λ f. f.block.0) freed)
freed_among [] b = refl
freed_among (f ∷ freed) b = ap (λ (t : Bool). eqb f.block.0 b || t) (freed_among freed b)

none_as_metadata : (freed : List Freed) (b : ℕ) → All (λ f. b ≢ f.block.0) freed → list_any (λ f. eqb f.block.0 b && f.meta) freed ≡ false
none_as_metadata freed b all =
    list_any_none (λ (f : Freed). eqb f.block.0 b && f.meta) freed (λ k d inside.
    let f : Freed = slice_index_or freed k d in
    and_left (eqb f.block.0 b) f.meta (ne_eqb f.block.0 b (λ same. all k d inside (sym same))))

as_it_was : (freed : List Freed) (test : ℕ → Bool) (b : ℕ) → All (λ f. f.meta ≡ test f.block.0) freed → list_any (λ f. eqb f.block.0 b) freed ≡ true → list_any (λ f. eqb f.block.0 b && f.meta) freed ≡ test b
as_it_was freed test b all here =
    let found = some_passes (λ (f : Freed). eqb f.block.0 b) freed here in
    let f : Freed = found.0 in
    let same = eqb-true f.block.0 b found.2 in
    elim (cases_Bool (test b)) [
      | inl holds ↦
          let meta : f.meta ≡ true = All-contains (λ (h : Freed). h.meta ≡ test h.block.0) freed f all found.1 ∙ ap test same ∙ holds in
          passes_of (λ (h : Freed). eqb h.block.0 b && h.meta) freed f found.1 (and_from (eqb f.block.0 b) f.meta found.2 meta) ∙ sym holds
      | inr not_so ↦
          list_any_none (λ (h : Freed). eqb h.block.0 b && h.meta) freed (λ k d inside.
          let h : Freed = slice_index_or freed k d in
          elim (cases_eq h.block.0 b) [
            | inl its ↦ and_right (eqb h.block.0 b) h.meta (all k d inside ∙ ap test its ∙ not_so)
            | inr away ↦ and_left (eqb h.block.0 b) h.meta (ne_eqb h.block.0 b away)
          ])
          ∙ sym not_so
    ]

-- a reading with another record of a group has the same claims
module _ (g : Geometry) (r : Reading) (n : ℕ) (new : GroupRecord) where
  abbrev with_new : Reading
  with_new = with_group r n (Some new)

  pub claimed_same : (b : ℕ) → is_claimed with_new b ≡ is_claimed r b
  claimed_same b = ap (list_any (λ (claim : Claim). eqb claim.block b)) (same_claims r n new)

  pub suits_same : (kind : DeltaKind) (b : ℕ) → suits_block g with_new kind b ≡ suits_block g r kind b
  suits_same kind b = kinds_by_claims g r with_new b (λ k. ap (list_any (λ (claim : Claim). eqb claim.block b && suits_claim r k claim)) (same_claims r n new)) kind

  pub length_same : (b : ℕ) → metadata_length g with_new b ≡ metadata_length g r b
  unfolding metadata_length
  length_same b = ap (λ (l : List Claim). max (length_of_records g b) (greatest_on (metadata_claim_length r) l b)) (same_claims r n new)

module _ (g : Geometry) (base : Image) (taken : ℕ → Bool) (change : Change) (n : ℕ) (hand : Hand) (hands : List Hand) (old new : GroupRecord) (freed : List Freed)
    (draft : IsDraft g base taken change (hand ∷ hands)) (within : n < g.groups) (is : record_at (reading_of g (drafted_blocks change base)) n ≡ Some old) (group : IsGroup g n new)
    (counts : has_right_counts g new ≡ true) (of_group : IsOfGroup g n hand) (put : HasHandPut g n false hand old new) (gives : GivesUp g base hand freed) where
  abbrev blocks : Blocks
  blocks = drafted_blocks change base

  abbrev before : Reading
  before = reading_of g (block base)

  abbrev r : Reading
  r = reading_of g blocks

  abbrev t : Reading
  t = with_group r n (Some new)

  abbrev loose : ℕ → Bool
  loose = is_loose before hands

  abbrev middle : Change
  middle = with_all_freed change freed

  abbrev delta : Delta
  delta = group_delta g n (group_bytes new)

  abbrev next : Change
  next = with_delta middle delta

  abbrev others : Blocks
  others = with_laid (drafted_blocks middle base) delta

  t_stored : IsStored g t hands
  t_stored = mark_stored g r n new (hand ∷ hands) hands draft.stored (back_marks g r n hand hands old new draft.geometry within is counts of_group draft.stored put)

  r_laid : IsLaid g r
  r_laid = stored_is_laid g r (hand ∷ hands) draft.stored

  t_laid : IsLaid g t
  t_laid = stored_is_laid g t hands t_stored

  before_laid : IsLaid g before
  before_laid = stored_is_laid g before draft.start draft.began

  body_before : (b : ℕ) → is_claimed before b ≡ true → is_body g b ≡ true
  body_before b claimed =
      let found = claim_of before b claimed in
      sym (ap (is_body g) found.2) ∙ body_of_claim g before before_laid found.0 found.1

  -- what is held is in the hand, or among the others
  held_parts : (b : ℕ) → is_among b (held_blocks (hand ∷ hands)) ≡ (is_among b hand.blocks || is_among b (held_blocks hands))
  held_parts b = list_any-append (λ (m : ℕ). eqb m b) hand.blocks (held_blocks hands)

  in_hand : (b : ℕ) → is_among b hand.blocks ≡ true → (is_body g b ≡ true) × (is_claimed r b ≡ false)
  in_hand b here = held_free g r (hand ∷ hands) draft.stored b (held_parts b ∙ or_left (is_among b hand.blocks) (is_among b (held_blocks hands)) here)

  claimed_in_hand : (b : ℕ) → is_among b hand.blocks ≡ true → is_claimed before b ≡ true
  claimed_in_hand b here = of_one_among b hand.blocks (λ c. is_claimed before c ≡ true) gives.claimed here

  -- not in both
  not_among_others : (b : ℕ) → is_among b hand.blocks ≡ true → is_among b (held_blocks hands) ≡ false
  not_among_others b here = elim (cases_Bool (is_among b (held_blocks hands))) [
    | inr free ↦ free
    | inl too ↦
        let one = ltb-true 0 (times b hand.blocks) (sym (among_counted b hand.blocks) ∙ here) in
        let another = ltb-true 0 (times b (held_blocks hands)) (sym (among_counted b (held_blocks hands)) ∙ too) in
        absurd (omega (arith, one, another, times-append b hand.blocks (held_blocks hands), times_apart b (held_blocks (hand ∷ hands)) draft.stored.apart.blocks))
  ]

  listed : (b : ℕ) → is_among b (map (λ f. f.block.0) freed) ≡ is_among b hand.blocks
  listed b = ap (is_among b) gives.blocks

  away_from : (b : ℕ) → is_among b hand.blocks ≡ false → All (λ f. b ≢ f.block.0) freed
  away_from b out = others_of freed b (listed b ∙ out)

  loose_before : (b : ℕ) → is_claimed before b ≡ true → is_loose before (hand ∷ hands) b ≡ (is_among b hand.blocks || is_among b (held_blocks hands))
  loose_before b claimed = ap (λ (x : Bool). x && is_among b (held_blocks (hand ∷ hands))) claimed ∙ held_parts b

  -- the deltas before any block is freed
  each_delta : (e : Delta) → Contains change.deltas e → Suitable g t e × IsWell g before t loose (map (λ f. f.block.0) freed) e
  each_delta e here =
      let b = e.home / 4096 in
      elim (cases_Bool (is_loose before (hand ∷ hands) b)) [
        | inl was ↦
            let parts = and_parts (is_claimed before b) (is_among b (held_blocks (hand ∷ hands))) was in
            let free = held_free g r (hand ∷ hands) draft.stored b parts.1 in
            let old_kind = All-contains (λ (d : Delta). is_loose before (hand ∷ hands) (d.home / 4096) ≡ true → suits g before d ≡ true) change.deltas e draft.follows.loosened here was in
            let one_of : (is_among b (map (λ f. f.block.0) freed) || loose b) ≡ true = elim (or_cases (is_among b hand.blocks) (is_among b (held_blocks hands)) (sym (held_parts b) ∙ parts.1)) [
              | inl mine ↦ or_left (is_among b (map (λ f. f.block.0) freed)) (loose b) (listed b ∙ mine)
              | inr theirs ↦ or_right (is_among b (map (λ f. f.block.0) freed)) (loose b) (and_from (is_claimed before b) (is_among b (held_blocks hands)) parts.0 theirs)
            ] in
            (inr (free.0, claimed_same g r n new b ∙ free.1), inr (one_of, old_kind))
        | inr tight ↦
            let suited = All-contains (λ (d : Delta). is_loose before (hand ∷ hands) (d.home / 4096) ≡ false → suits g r d ≡ true) change.deltas e draft.follows.suited here tight in
            elim (cases_Bool (is_cancel e.kind)) [
              | inl cancel ↦
                  let some : list_any (λ d. is_cancel d.kind && eqb (d.home / 4096) b) change.deltas ≡ true =
                  passes_of (λ d. is_cancel d.kind && eqb (d.home / 4096) b) change.deltas e here (and_from (is_cancel e.kind) (eqb b b) cancel (eq-eqb b b refl)) in
                  let gone = draft.follows.marked b (freed_metadata change b (sym (draft.recorded.cancels b) ∙ some)) in
                  (inr (body_before b gone.claimed, claimed_same g r n new b ∙ gone.unclaimed), inl (or_left (is_cancel e.kind) (suits_block g t e.kind b) cancel))
              | inr lays ↦
                  let fitting : suits_block g r e.kind b ≡ true = ap (λ (x : Bool). x || suits_block g r e.kind b) (sym lays) ∙ suited in
                  let now : suits_block g t e.kind b ≡ true = suits_same g r n new e.kind b ∙ fitting in
                  (inl now, inl (or_right (is_cancel e.kind) (suits_block g t e.kind b) now))
            ]
      ]

  well : WellSoFar g before t loose (map (λ f. f.block.0) freed) change
  well = record {
    recorded = draft.recorded;
    fits = λ k d inside. (each_delta (slice_index_or change.deltas k d) (Contains-get_or change.deltas k d inside)).0;
    well = λ k d inside. (each_delta (slice_index_or change.deltas k d) (Contains-get_or change.deltas k d inside)).1;
  }

  each_may : (f : Freed) → Contains freed f → MayFree g before t f
  each_may f here =
      let b = f.block.0 in
      let there : Contains hand.blocks b = subst (λ (l : List ℕ). Contains l b) gives.blocks (Contains_map (λ (h : Freed). h.block.0) freed f here) in
      let mine : is_among b hand.blocks ≡ true = passes_of (λ (m : ℕ). eqb m b) hand.blocks b there (eq-eqb b b refl) in
      let free = in_hand b mine in
      record {
        body = free.0;
        free = claimed_same g r n new b ∙ free.1;
        metadata = All-contains (λ (h : Freed). h.meta ≡ nat_lt 0 (metadata_length g before h.block.0)) freed f gives.metadata here;
      }

  after_freeing : WellSoFar g before t loose [] middle × LeavesOthers base change middle freed
  after_freeing =
      all_freed g base before t loose (λ b kind fitting. suited_some g (block base) draft.start draft.began kind b fitting) freed change well
      (λ k d inside. each_may (slice_index_or freed k d) (Contains-get_or freed k d inside))

  leaves : LeavesOthers base change middle freed
  leaves = after_freeing.1

  -- no delta may lie on a loose block
  tight_now : (b : ℕ) (kind : DeltaKind) → suits_block g t kind b ≡ true → loose b ≡ false
  tight_now b kind fitting = elim (where_suited g t kind b fitting) [
    | inl records ↦ and_left (is_claimed before b) (is_among b (held_blocks hands)) (elim (cases_Bool (is_claimed before b)) [
      | inl claimed ↦ absurd (both_ways (is_body g b) (no_body g kind b records) (body_before b claimed))
      | inr free ↦ free
    ])
    | inr found ↦
        let claimed : is_claimed t b ≡ true = sym (ap (is_claimed t) found.block) ∙ claims_its_block t found.claim found.among in
        and_right (is_claimed before b) (is_among b (held_blocks hands)) (elim (cases_Bool (is_among b (held_blocks hands))) [
          | inl held ↦ absurd (both_ways (is_claimed t b) (held_free g t hands t_stored b held).1 claimed)
          | inr free ↦ free
        ])
  ]

  well_suited : (e : Delta) → IsWell g before t loose [] e → loose (e.home / 4096) ≡ false → suits g t e ≡ true
  well_suited e (inl fitting) tight = fitting
  well_suited e (inr old_kind) tight = absurd (both_ways (loose (e.home / 4096)) tight old_kind.0)

  well_loosened : (e : Delta) → IsWell g before t loose [] e → loose (e.home / 4096) ≡ true → suits g before e ≡ true
  well_loosened e (inr old_kind) is_loose_now = old_kind.1
  well_loosened e (inl fitting) is_loose_now = elim (or_cases (is_cancel e.kind) (suits_block g t e.kind (e.home / 4096)) fitting) [
    | inl cancel ↦ or_left (is_cancel e.kind) (suits_block g before e.kind (e.home / 4096)) cancel
    | inr lays ↦ absurd (both_ways (loose (e.home / 4096)) (tight_now (e.home / 4096) e.kind lays) is_loose_now)
  ]

  fit : FitsIn g before t loose middle
  fit = record {
    recorded = after_freeing.0.recorded;
    fits = after_freeing.0.fits;
    suited = All-weaker (IsWell g before t loose []) (λ e. loose (e.home / 4096) ≡ false → suits g t e ≡ true) well_suited middle.deltas after_freeing.0.well;
    loosened = All-weaker (IsWell g before t loose []) (λ e. loose (e.home / 4096) ≡ true → suits g before e ≡ true) well_loosened middle.deltas after_freeing.0.well;
    tight = tight_now;
  }

  own : IsLoggable g delta
  own = group_loggable g n new draft.geometry within group

  more : OneMore g base t loose middle delta
  more = one_more g base t loose middle delta draft.room t_laid fit own refl (group_suited g n new draft.geometry within group t)

  -- what is read after
  sized : AreSized g (drafted_blocks middle base)
  sized = drafted_sized g base middle draft.room after_freeing.0.recorded.raw

  unread_now : (c : ℕ) → take (read_length g r c) (drafted_blocks middle base c) ≡ take (read_length g r c) (blocks c)
  unread_now c = elim (cases_Bool (is_among c hand.blocks)) [
    | inl mine ↦
        let free = in_hand c mine in
        let none = nothing_read g r c free.0 free.1 in
        ap (λ (m : ℕ). take m (drafted_blocks middle base c)) none ∙ sym (ap (λ (m : ℕ). take m (blocks c)) none)
    | inr out ↦ ap (take (read_length g r c)) (leaves.content c (away_from c out))
  ]

  at : (4096 * group_start g n) / 4096 ≡ group_start g n
  at = omega arith

  place : (4096 * group_start g n) % 4096 ≡ 0
  place = omega arith

  agree : AgreeWhereReadBut g blocks others (group_start g n) 0 416
  agree =
      let lengths = read_length g r in
      let home = 4096 * group_start g n in
      let now = agree_through lengths blocks (drafted_blocks middle base) others (home / 4096) (home % 4096) 416 unread_now (agree_but g (drafted_blocks middle base) delta sized own refl lengths) in
      subst (λ (q : ℕ). AgreeBut lengths blocks others (group_start g n) q 416) place (subst (λ (c : ℕ). AgreeBut lengths blocks others c (home % 4096) 416) at now)

  mostly : AgreeInMetadataBut g blocks others (group_start g n) 0 416
  mostly = agree_in_metadata_but g blocks others (group_start g n) 0 416 agree

  record_there : group_at g others n ≡ Some new
  record_there =
      (λ x. group_of g n (take 416 (drop (sym place x) (others (sym at x)))))
      ∙ ap (group_of g n) (there g (drafted_blocks middle base) delta sized own refl) ∙ group_back g n new draft.geometry group

  read : reading_of g (drafted_blocks next base) ≡ t
  read =
      ap (reading_of g) more.laid ∙ one_group g blocks others n within (only_group g blocks others draft.geometry r_laid n within mostly)
      ∙ ap (λ (o : Option GroupRecord). with_group r n o) record_there

  tree_now : tree_of g (drafted_blocks next base) ≡ tree_of g blocks
  tree_now =
      ap (tree_of g) more.laid
      ∙ tree_beside g blocks others n within (only_group g blocks others draft.geometry r_laid n within mostly) (claims_beside_group g blocks others draft.geometry r_laid n within agree)

  -- which blocks are freed now
  frees_now : (b : ℕ) → frees next b ≡ (frees change b || is_among b hand.blocks)
  frees_now b =
      ap (list_any (λ (f : Freed). eqb f.block.0 b)) leaves.freed ∙ list_any-append (λ (f : Freed). eqb f.block.0 b) change.freed freed
      ∙ ap (λ (x : Bool). frees change b || x) (freed_among freed b ∙ listed b)

  metadata_now : (b : ℕ) → frees_metadata next b ≡ (frees_metadata change b || list_any (λ f. eqb f.block.0 b && f.meta) freed)
  metadata_now b = ap (list_any (λ (f : Freed). eqb f.block.0 b && f.meta)) leaves.freed ∙ list_any-append (λ (f : Freed). eqb f.block.0 b && f.meta) change.freed freed

  -- the bits of the blocks of the hand, before
  was_set : (b : ℕ) → is_among b hand.blocks ≡ true → block_bit g r b ≡ true
  was_set b mine =
      bit_says g r (hand ∷ hands) draft.stored b (in_hand b mine).0
      ∙ or_right (is_claimed r b) (is_among b (held_blocks (hand ∷ hands))) (held_parts b ∙ or_left (is_among b hand.blocks) (is_among b (held_blocks hands)) mine)

  set_before : (b : ℕ) → is_claimed before b ≡ true → block_bit g before b ≡ true
  set_before b claimed = bit_says g before draft.start draft.began b (body_before b claimed) ∙ or_left (is_claimed before b) (is_among b (held_blocks draft.start)) claimed

  clear_now : (b : ℕ) → is_among b hand.blocks ≡ true → block_bit g t b ≡ false
  clear_now b mine =
      let free = in_hand b mine in
      bit_says g t hands t_stored b free.0 ∙ ap (λ (x : Bool). x || is_among b (held_blocks hands)) (claimed_same g r n new b ∙ free.1) ∙ not_among_others b mine

  same_bit : (b : ℕ) → is_body g b ≡ true → is_among b hand.blocks ≡ false → block_bit g t b ≡ block_bit g r b
  same_bit b body out =
      bit_says g t hands t_stored b body
      ∙ (λ x. claimed_same g r n new b x || (sym (held_parts b ∙ ap (λ (y : Bool). y || is_among b (held_blocks hands)) out)) x)
      ∙ sym (bit_says g r (hand ∷ hands) draft.stored b body)

  not_freed_yet : (b : ℕ) → is_among b hand.blocks ≡ true → frees change b ≡ false
  not_freed_yet b mine = elim (cases_Bool (frees change b)) [
    | inr not_so ↦ not_so
    | inl freed_then ↦
        let both : (block_bit g before b && not (block_bit g r b)) ≡ true = draft.follows.bits.cleared b (in_hand b mine).0 ∙ freed_then in
        absurd (both_ways (not (block_bit g r b)) (ap not (was_set b mine)) (and_parts (block_bit g before b) (not (block_bit g r b)) both).1)
  ]

  -- a block that is claimed isn't in the hand
  claimed_out : (b : ℕ) → is_claimed r b ≡ true → is_among b hand.blocks ≡ false
  claimed_out b claimed = elim (cases_Bool (is_among b hand.blocks)) [
    | inl mine ↦ absurd (both_ways (is_claimed r b) (in_hand b mine).1 claimed)
    | inr out ↦ out
  ]

  given_on : (b place : ℕ) → is_among b hand.blocks ≡ false → place < 4096 → is_given change.deltas b place ≡ true → is_given next.deltas b place ≡ true
  given_on b place out low given = more.still b place low (leaves.given b place (away_from b out) low given)

  given_now : (b place : ℕ) → metadata_length g before b ≤ place → place < metadata_length g t b → is_given next.deltas b place ≡ true
  given_now b place low high =
      let same = length_same g r n new b in
      let short : place < 4096 = omega (arith, high, same, at_most_a_block g blocks (hand ∷ hands) draft.stored b) in
      elim (cases_Bool (is_among b hand.blocks)) [
        | inl mine ↦ absurd (omega (arith, high, same, none_of_free g r b (in_hand b mine).0 (in_hand b mine).1))
        | inr out ↦ given_on b place out short (draft.follows.given b place low (omega (arith, high, same)))
      ]

  -- what stays claimed
  module _ (b : ℕ) (claimed : is_claimed before b ≡ true) (unfreed : frees next b ≡ false) (tight : loose b ≡ false) where
    unfreed_both : (frees change b ≡ false) × (is_among b hand.blocks ≡ false)
    unfreed_both = or_none_both (frees change b) (is_among b hand.blocks) (sym (frees_now b) ∙ unfreed)

    tight_then : is_loose before (hand ∷ hands) b ≡ false
    tight_then =
        let unheld : is_among b (held_blocks hands) ≡ false = ap (λ (x : Bool). x && is_among b (held_blocks hands)) (sym claimed) ∙ tight in
        loose_before b claimed ∙ (λ x. unfreed_both.1 x || unheld x)

    stays_now : StaysClaimed g before t b
    stays_now =
        let first = draft.follows.stays b claimed unfreed_both.0 tight_then in
        record {
          claimed = claimed_same g r n new b ∙ first.claimed;
          kinds = λ kind. suits_same g r n new kind b ∙ first.kinds kind;
          length = λ no_chunk. length_same g r n new b ∙ first.length no_chunk;
        }

    grows_now : metadata_length g before b ≤ metadata_length g t b
    grows_now = omega (arith, draft.follows.grows b claimed unfreed_both.0 tight_then, length_same g r n new b)

  comes_now : (b : ℕ) → is_claimed before b ≡ false → is_claimed t b ≡ true → ComesClaimed g next taken t b
  comes_now b was claimed =
      let then : is_claimed r b ≡ true = sym (claimed_same g r n new b) ∙ claimed in
      let first = draft.follows.claimed b was then in
      record {
        body = first.body;
        in_transaction = first.in_transaction;
        bit = bit_says g t hands t_stored b first.body ∙ or_left (is_claimed t b) (is_among b (held_blocks hands)) claimed;
        whole = λ chunk place low. given_on b place (claimed_out b then) low (first.whole (sym (suits_same g r n new Chunk b) ∙ chunk) place low);
      }

  marked_now : (b : ℕ) → frees next b ≡ true → IsGivenUp g next before t b
  marked_now b is_freed = elim (cases_Bool (is_among b hand.blocks)) [
    | inl mine ↦
        let nothing_old : frees_metadata change b ≡ false = elim (cases_Bool (frees_metadata change b)) [
          | inl some ↦ absurd (both_ways (frees change b) (not_freed_yet b mine) (freed_metadata change b some))
          | inr none ↦ none
        ] in
        record {
          claimed = claimed_in_hand b mine;
          unclaimed = claimed_same g r n new b ∙ (in_hand b mine).1;
          metadata = metadata_now b ∙ ap (λ (x : Bool). x || list_any (λ f. eqb f.block.0 b && f.meta) freed) nothing_old
              ∙ as_it_was freed (λ c. nat_lt 0 (metadata_length g before c)) b gives.metadata (freed_among freed b ∙ listed b ∙ mine);
        }
    | inr out ↦
        let then : frees change b ≡ true = elim (or_cases (frees change b) (is_among b hand.blocks) (sym (frees_now b) ∙ is_freed)) [
          | inl old_one ↦ old_one
          | inr mine ↦ absurd (both_ways (is_among b hand.blocks) out mine)
        ] in
        let first = draft.follows.marked b then in
        record {
          claimed = first.claimed;
          unclaimed = claimed_same g r n new b ∙ first.unclaimed;
          metadata = metadata_now b ∙ ap (λ (x : Bool). frees_metadata change b || x) (none_as_metadata freed b (away_from b out)) ∙ or_false (frees_metadata change b) ∙ first.metadata;
        }
  ]

  bits_now : HasBitsOf g (λ b. is_among b next.taken) (frees next) before t
  bits_now = record {
    set = λ b body. elim (cases_Bool (is_among b hand.blocks)) [
      | inl mine ↦
          let set_then = set_before b (claimed_in_hand b mine) in
          and_left (not (block_bit g before b)) (block_bit g t b) (ap not set_then)
          ∙ sym (and_left (not (block_bit g before b)) (block_bit g r b) (ap not set_then)) ∙ draft.follows.bits.set b body ∙ ap (is_among b) (sym leaves.taken)
      | inr out ↦
          ap (λ (x : Bool). not (block_bit g before b) && x) (same_bit b body out) ∙ draft.follows.bits.set b body ∙ ap (is_among b) (sym leaves.taken)
    ];
    cleared = λ b body. elim (cases_Bool (is_among b hand.blocks)) [
      | inl mine ↦
          and_from (block_bit g before b) (not (block_bit g t b)) (set_before b (claimed_in_hand b mine)) (ap not (clear_now b mine))
          ∙ sym (frees_now b ∙ or_right (frees change b) (is_among b hand.blocks) mine)
      | inr out ↦
          ap (λ (x : Bool). block_bit g before b && not x) (same_bit b body out) ∙ draft.follows.bits.cleared b body
          ∙ sym (frees_now b ∙ ap (λ (x : Bool). frees change b || x) out ∙ or_false (frees change b))
    ];
  }

  follows : FollowsSoFar g next taken loose before t
  follows = record {
    raw_before = subst (λ (raw : List RawWrite). All (λ w. metadata_length g before (w.first / 8) ≡ 0) raw) (sym leaves.raw) draft.follows.raw_before;
    raw_after = subst (λ (raw : List RawWrite). All (λ w. metadata_length g t (w.first / 8) ≡ 0) raw) (sym leaves.raw)
        (All-weaker (λ (w : RawWrite). metadata_length g r (w.first / 8) ≡ 0) (λ w. metadata_length g t (w.first / 8) ≡ 0) (λ w none. length_same g r n new (w.first / 8) ∙ none) change.raw draft.follows.raw_after);
    suited = more.next.suited;
    loosened = more.next.loosened;
    given = given_now;
    stays = stays_now;
    grows = grows_now;
    claimed = comes_now;
    marked = marked_now;
    bits = bits_now;
  }

  pub hand_given_back : KeepsTree g base taken change next hands
  hand_given_back = record {
    draft = record {
      geometry = draft.geometry;
      room = draft.room;
      start = draft.start;
      began = draft.began;
      recorded = more.next.recorded;
      stored = subst (λ (x : Reading). IsStored g x hands) (sym read) t_stored;
      follows = subst (λ (x : Reading). FollowsSoFar g next taken loose before x) (sym read) follows;
    };
    tree = tree_now;
    used = λ k. ap (λ (x : Reading). used_at x k) read;
  }

-- one more block freed
pub one_freed_more : (change : Change) (freed : List Freed) (f : Freed) → with_all_freed change (freed ++ f ∷ []) ≡ with_freed (with_all_freed change freed) f
one_freed_more change [] f = refl
one_freed_more change (first ∷ freed) f = one_freed_more (with_freed change first) freed f
