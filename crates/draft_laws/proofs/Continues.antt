-- A step from one reading to the next: what a change so far owes, it still owes nothing more.
use Rattle.std.proofs.Common.{◌≡◌, ◌≢◌, ◌<◌, ◌≤◌, ◌⊎◌, inl, inr, ℕ, ◌/◌, eqb, Bool, true, false, not, ◌&&◌, ◌||◌, List, refl, sym, ap, ◌∙◌, subst, arith}
use Rattle.std.specs.Prelude.{slice_index_or}
use Rattle.std.specs.List.{All, Contains, list_any, count_by}
use Rattle.std.proofs.lemmas.Bool.{cases_Bool, cases_lt, and_parts, and_from, and_left, and_right, both_ways, or_right, or_left, ltb-true, eq-eqb}
use Rattle.std.proofs.lemmas.List.Elements.{All-contains, Contains-get_or}
use Rattle.lufs_base.specs.declared.geometry.Geometry.{Geometry}
use Rattle.lufs_base.specs.declared.delta.Delta.{Delta}
use Rattle.lufs_base.specs.declared.delta.DeltaKind.{DeltaKind}
use Rattle.lufs_base.specs.declared.delta.DeltaKind.TheVariants.{Chunk}
use Rattle.volume_model.specs.declared.hand.Hand.{Hand}
use Rattle.volume_model.specs.Format.{Image, Blocks, block, is_body}
use Rattle.volume_model.specs.Log.{is_cancel}
use Rattle.volume_model.specs.Sound.{Reading, reading_of, Claim, claims_of, is_claimed, IsLaid, IsStored, held_blocks, is_among, block_bit, metadata_claim_length, greatest_on, length_of_records, metadata_length}
use Rattle.volume_laws.proofs.ClaimFacts.{claims_its_block}
use Rattle.volume_laws.proofs.LaidClaims.{metadata_of_claim, body_of_claim, one_claim, greatest_below}
use Rattle.volume_laws.proofs.ReadLengths.{metadata_is_read}
use Rattle.volume_laws.proofs.UnclaimedBlocks.{nothing_read}
use Rattle.volume_laws.proofs.StoredClaims.{stored_is_laid}
use Rattle.change_laws.proofs.Places.{bits_of_stored, taken_block}
use Rattle.change_laws.proofs.Counts.{among_counted, holds_of}
use Rattle.meta_store.specs.declared.change.Change.{Change}
use Rattle.meta_store.specs.declared.change.Freed.{Freed}
use Rattle.meta_store.specs.declared.change.RawWrite.{RawWrite}
use Rattle.meta_store.specs.Changes.{frees, frees_metadata}
use Rattle.meta_store.specs.Conditions.{is_given, IsInBlock, StaysClaimed, ComesClaimed}
use Rattle.meta_store.specs.Suited.{suits_claim, suits_block, suits}
use Rattle.meta_draft.specs.Drafted.{drafted_blocks}
use Rattle.draft_laws.specs.Follows.{is_loose, FollowsSoFar}
use Rattle.draft_laws.specs.Drafts.{IsDraft}
use Rattle.draft_laws.proofs.ClaimUses.{claim_of, passes_of, some_passes, suits_by_claim, stays_so, grows_so}
use Rattle.draft_laws.proofs.SuitedBeside.{SuitsRecords, where_suited, no_body, Suitable}
use Rattle.draft_laws.proofs.MetadataLengths.{claim_some, at_most_a_block}

-- the claim is there after, as the same, and as long or longer
pub record KeepsUse (r s : Reading) (claim : Claim) : Type 0 where
  pub there : Contains (claims_of s) claim
  pub kinds : (kind : DeltaKind) → suits_claim s kind claim ≡ suits_claim r kind claim
  pub longer : metadata_claim_length r claim ≤ metadata_claim_length s claim
  pub same : suits_claim r Chunk claim ≡ false → metadata_claim_length s claim ≡ metadata_claim_length r claim

-- its block is loose
abbrev pub IsLost : Reading → List Hand → Claim → Type 0
IsLost before after claim = (is_claimed before claim.block ≡ true) × (is_among claim.block (held_blocks after) ≡ true)

-- the claim may come, of a block that the transaction took
pub record MayCome (before s : Reading) (taken : ℕ → Bool) (raw : List RawWrite) (claim : Claim) : Type 0 where
  pub in_transaction : taken claim.block ≡ true
  pub unclaimed : is_claimed before claim.block ≡ false
  pub unwritten : 0 < metadata_claim_length s claim → All (λ w. w.first / 8 ≢ claim.block) raw

-- what a step does to claims and bits
pub record Continues (g : Geometry) (before : Reading) (taken : ℕ → Bool) (raw : List RawWrite) (after : List Hand) (r s : Reading) : Type 0 where
  pub keeps : (claim : Claim) → Contains (claims_of r) claim → KeepsUse r s claim ⊎ IsLost before after claim
  pub news : (claim : Claim) → Contains (claims_of s) claim → Contains (claims_of r) claim ⊎ MayCome before s taken raw claim
  pub bits : (b : ℕ) → is_body g b ≡ true → block_bit g s b ≡ block_bit g r b

-- the deltas give what is metadata now and wasn't
pub record Gives (r s : Reading) (deltas : List Delta) : Type 0 where
  pub longer : (claim : Claim) → Contains (claims_of r) claim → Contains (claims_of s) claim → (place : ℕ) → metadata_claim_length r claim ≤ place
      → place < metadata_claim_length s claim → is_given deltas claim.block place ≡ true
  pub new : (claim : Claim) → Contains (claims_of s) claim → is_claimed r claim.block ≡ false → (place : ℕ) → place < metadata_claim_length s claim → is_given deltas claim.block place ≡ true
  pub whole : (claim : Claim) → Contains (claims_of s) claim → is_claimed r claim.block ≡ false → suits_claim s Chunk claim ≡ true → (place : ℕ) → place < 4096
      → is_given deltas claim.block place ≡ true

-- the bit of a body block says whether it is claimed or held
pub bit_says : (g : Geometry) (r : Reading) (hands : List Hand) → IsStored g r hands → (b : ℕ) → is_body g b ≡ true → block_bit g r b ≡ (is_claimed r b || is_among b (held_blocks hands))
bit_says g r hands stored b body = (bits_of_stored g r hands stored).blocks b body ∙ sym (taken_block r hands b)

-- a held block is a body block that isn't claimed
pub held_free : (g : Geometry) (r : Reading) (hands : List Hand) → IsStored g r hands → (b : ℕ) → is_among b (held_blocks hands) ≡ true → (is_body g b ≡ true) × (is_claimed r b ≡ false)
held_free g r hands stored b held =
    let some : 1 ≤ count_by (λ m. eqb m b) (held_blocks hands) = ltb-true 0 (count_by (λ m. eqb m b) (held_blocks hands)) (sym (among_counted b (held_blocks hands)) ∙ held) in
    (holds_of (λ c. is_body g c ≡ true) (held_blocks hands) b stored.apart.blocks_body some, holds_of (λ c. is_claimed r c ≡ false) (held_blocks hands) b stored.apart.blocks_free some)

-- a block that is freed as metadata is freed
pub freed_metadata : (change : Change) (b : ℕ) → frees_metadata change b ≡ true → frees change b ≡ true
freed_metadata change b freed =
    let found = some_passes (λ (f : Freed). eqb f.block.0 b && f.meta) change.freed freed in
    passes_of (λ (f : Freed). eqb f.block.0 b) change.freed found.0 found.1 (and_parts (eqb found.0.block.0 b) found.0.meta found.2).0

of_records_still : (g : Geometry) (r s : Reading) (kind : DeltaKind) (b : ℕ) → SuitsRecords g kind b → suits_block g r kind b ≡ true → suits_block g s kind b ≡ true
of_records_still g r s kind b records suits = elim records.0 [
  | inl is ↦ ap (λ (k : DeltaKind). suits_block g s k b) is ∙ sym (ap (λ (k : DeltaKind). suits_block g r k b) is) ∙ suits
  | inr is ↦ ap (λ (k : DeltaKind). suits_block g s k b) is ∙ sym (ap (λ (k : DeltaKind). suits_block g r k b) is) ∙ suits
]

-- of a body block that isn't claimed no byte is metadata
pub none_of_free : (g : Geometry) (r : Reading) (b : ℕ) → is_body g b ≡ true → is_claimed r b ≡ false → metadata_length g r b ≡ 0
none_of_free g r b body free = omega (arith, metadata_is_read g r b, nothing_read g r b body free)

-- of a block that is no body block as many are as its records have
pub of_no_body : (g : Geometry) (r : Reading) (b : ℕ) → IsLaid g r → is_body g b ≡ false → metadata_length g r b ≡ length_of_records g b
unfolding metadata_length
of_no_body g r b laid no_body =
    let none : greatest_on (metadata_claim_length r) (claims_of r) b ≤ 0 =
    greatest_below (metadata_claim_length r) (claims_of r) b 0 (λ c there same. absurd (both_ways (is_body g b) no_body (sym (ap (is_body g) same) ∙ body_of_claim g r laid c there))) in
    omega (arith, none)

module _ (g : Geometry) (base : Image) (taken : ℕ → Bool) (change : Change) (hands after : List Hand) (others : Blocks) (draft : IsDraft g base taken change hands)
    (stored : IsStored g (reading_of g others) after)
    (goes : Continues g (reading_of g (block base)) taken change.raw after (reading_of g (drafted_blocks change base)) (reading_of g others)) where
  abbrev before : Reading
  before = reading_of g (block base)

  abbrev r : Reading
  r = reading_of g (drafted_blocks change base)

  abbrev s : Reading
  s = reading_of g others

  r_laid : IsLaid g r
  r_laid = stored_is_laid g r hands draft.stored

  s_laid : IsLaid g s
  s_laid = stored_is_laid g s after stored

  -- what was given up isn't claimed again
  still_free : (b : ℕ) → is_claimed before b ≡ true → is_claimed r b ≡ false → is_claimed s b ≡ false
  still_free b was free = elim (cases_Bool (is_claimed s b)) [
    | inr not_so ↦ not_so
    | inl claimed ↦
        let found = claim_of s b claimed in
        elim (goes.news found.0 found.1) [
          | inl old ↦ absurd (both_ways (is_claimed r b) free (sym (ap (is_claimed r) found.2) ∙ claims_its_block r found.0 old))
          | inr new ↦ absurd (both_ways (is_claimed before b) (sym (ap (is_claimed before) found.2) ∙ new.unclaimed) was)
        ]
  ]

  -- and what was loose is
  still_loose : (b : ℕ) → is_loose before hands b ≡ true → is_loose before after b ≡ true
  still_loose b loose =
      let parts = and_parts (is_claimed before b) (is_among b (held_blocks hands)) loose in
      let free = held_free g r hands draft.stored b parts.1 in
      let unclaimed = still_free b parts.0 free.1 in
      let bit : (is_claimed s b || is_among b (held_blocks after)) ≡ true =
      sym (bit_says g s after stored b free.0) ∙ goes.bits b free.0 ∙ bit_says g r hands draft.stored b free.0 ∙ or_right (is_claimed r b) (is_among b (held_blocks hands)) parts.1 in
      let held : is_among b (held_blocks after) ≡ true = ap (λ (t : Bool). t || is_among b (held_blocks after)) (sym unclaimed) ∙ bit in
      and_from (is_claimed before b) (is_among b (held_blocks after)) parts.0 held

  not_loose : (b : ℕ) → is_loose before after b ≡ false → is_loose before hands b ≡ false
  not_loose b free_of = elim (cases_Bool (is_loose before hands b)) [
    | inl loose ↦ absurd (both_ways (is_loose before after b) free_of (still_loose b loose))
    | inr not_so ↦ not_so
  ]

  -- a block that is claimed stays so, or is loose now
  stays_or_lost : (b : ℕ) → is_claimed r b ≡ true → (StaysClaimed g r s b × (metadata_length g r b ≤ metadata_length g s b)) ⊎ (is_loose before after b ≡ true)
  stays_or_lost b claimed =
      let found = claim_of r b claimed in
      let c = found.0 in
      elim (goes.keeps c found.1) [
        | inl keeps ↦ inl (
          subst (λ (n : ℕ). StaysClaimed g r s n) found.2 (stays_so g r s r_laid s_laid c found.1 keeps.there keeps.kinds keeps.same),
          subst (λ (n : ℕ). metadata_length g r n ≤ metadata_length g s n) found.2 (grows_so g r s r_laid s_laid c found.1 keeps.there keeps.kinds keeps.longer),
        )
        | inr lost ↦ inr (subst (λ (n : ℕ). is_loose before after n ≡ true) found.2 (and_from (is_claimed before c.block) (is_among c.block (held_blocks after)) lost.0 lost.1))
      ]

  stays_unless : (b : ℕ) → is_claimed r b ≡ true → is_loose before after b ≡ false → StaysClaimed g r s b × (metadata_length g r b ≤ metadata_length g s b)
  stays_unless b claimed free_of = elim (stays_or_lost b claimed) [
    | inl stays ↦ stays
    | inr loose ↦ absurd (both_ways (is_loose before after b) free_of loose)
  ]

  -- what is claimed after is not held
  pub not_held : (b : ℕ) → is_claimed s b ≡ true → is_loose before after b ≡ false
  not_held b claimed = and_right (is_claimed before b) (is_among b (held_blocks after))
      (elim (cases_Bool (is_among b (held_blocks after))) [
        | inl held ↦ absurd (both_ways (is_claimed s b) (held_free g s after stored b held).1 claimed)
        | inr free ↦ free
      ])

  -- a delta of the change fits the next reading
  abbrev IsSuited : Delta → Type 0
  IsSuited e = is_loose before after (e.home / 4096) ≡ false → suits g s e ≡ true

  -- a cancel is of a block that was claimed, and isn't any more
  cancelled : (e : Delta) → Contains change.deltas e → is_cancel e.kind ≡ true → (is_claimed before (e.home / 4096) ≡ true) × (is_claimed r (e.home / 4096) ≡ false)
  cancelled e here cancel =
      let b = e.home / 4096 in
      let some : list_any (λ d. is_cancel d.kind && eqb (d.home / 4096) b) change.deltas ≡ true =
      passes_of (λ d. is_cancel d.kind && eqb (d.home / 4096) b) change.deltas e here (and_from (is_cancel e.kind) (eqb b b) cancel (eq-eqb b b refl)) in
      let freed = freed_metadata change b (sym (draft.recorded.cancels b) ∙ some) in
      let given_up = draft.follows.marked b freed in
      (given_up.claimed, given_up.unclaimed)

  body_before : (b : ℕ) → is_claimed before b ≡ true → is_body g b ≡ true
  body_before b claimed =
      let found = claim_of before b claimed in
      sym (ap (is_body g) found.2) ∙ body_of_claim g before (stored_is_laid g before draft.start draft.began) found.0 found.1

  -- a loose block isn't claimed
  loose_free : (b : ℕ) → is_loose before after b ≡ true → (is_body g b ≡ true) × (is_claimed s b ≡ false)
  loose_free b loose = held_free g s after stored b (and_parts (is_claimed before b) (is_among b (held_blocks after)) loose).1

  fits_each : (e : Delta) → Contains change.deltas e → Suitable g s e × IsSuited e
  fits_each e here =
      let b = e.home / 4096 in
      elim (cases_Bool (is_loose before after b)) [
        | inl loose ↦ (inr (loose_free b loose), (λ not_so. absurd (both_ways (is_loose before after b) not_so loose)))
        | inr tight ↦
            let old : suits g r e ≡ true = All-contains (λ (d : Delta). is_loose before hands (d.home / 4096) ≡ false → suits g r d ≡ true) change.deltas e draft.follows.suited here (not_loose b tight) in
            elim (cases_Bool (is_cancel e.kind)) [
              | inl cancel ↦
                  let gone = cancelled e here cancel in
                  (inr (body_before b gone.0, still_free b gone.0 gone.1), (λ _. or_left (is_cancel e.kind) (suits_block g s e.kind b) cancel))
              | inr lays ↦
                  let suited : suits_block g r e.kind b ≡ true = ap (λ (t : Bool). t || suits_block g r e.kind b) (sym lays) ∙ old in
                  let now : suits_block g s e.kind b ≡ true = elim (where_suited g r e.kind b suited) [
                    | inl records ↦ of_records_still g r s e.kind b records suited
                    | inr found ↦
                        let claimed : is_claimed r b ≡ true = sym (ap (is_claimed r) found.block) ∙ claims_its_block r found.claim found.among in
                        (stays_unless b claimed tight).0.kinds e.kind ∙ suited
                  ] in
                  (inl now, (λ _. or_right (is_cancel e.kind) (suits_block g s e.kind b) now))
            ]
      ]

  -- and one on a block that is loose suits what the block was
  loosened_each : (e : Delta) → Contains change.deltas e → is_loose before after (e.home / 4096) ≡ true → suits g before e ≡ true
  loosened_each e here loose =
      let b = e.home / 4096 in
      let was = (and_parts (is_claimed before b) (is_among b (held_blocks after)) loose).0 in
      elim (cases_Bool (is_loose before hands b)) [
        | inl already ↦ All-contains (λ (d : Delta). is_loose before hands (d.home / 4096) ≡ true → suits g before d ≡ true) change.deltas e draft.follows.loosened here already
        | inr tight ↦
            let old : suits g r e ≡ true = All-contains (λ (d : Delta). is_loose before hands (d.home / 4096) ≡ false → suits g r d ≡ true) change.deltas e draft.follows.suited here tight in
            elim (cases_Bool (is_cancel e.kind)) [
              | inl cancel ↦ or_left (is_cancel e.kind) (suits_block g before e.kind b) cancel
              | inr lays ↦
                  let suited : suits_block g r e.kind b ≡ true = ap (λ (t : Bool). t || suits_block g r e.kind b) (sym lays) ∙ old in
                  or_right (is_cancel e.kind) (suits_block g before e.kind b) (elim (where_suited g r e.kind b suited) [
                    | inl records ↦ of_records_still g r before e.kind b records suited
                    | inr found ↦
                        let claimed : is_claimed r b ≡ true = sym (ap (is_claimed r) found.block) ∙ claims_its_block r found.claim found.among in
                        let unfreed : frees change b ≡ false = elim (cases_Bool (frees change b)) [
                          | inl freed ↦ absurd (both_ways (is_claimed r b) (draft.follows.marked b freed).unclaimed claimed)
                          | inr not_so ↦ not_so
                        ] in
                        sym ((draft.follows.stays b was unfreed tight).kinds e.kind) ∙ suited
                  ])
            ]
      ]

  pub all_loosened : All (λ e. is_loose before after (e.home / 4096) ≡ true → suits g before e ≡ true) change.deltas
  all_loosened k d inside = loosened_each (slice_index_or change.deltas k d) (Contains-get_or change.deltas k d inside)

  -- no delta may lie on a loose block
  pub suited_tight : (b : ℕ) (kind : DeltaKind) → suits_block g s kind b ≡ true → is_loose before after b ≡ false
  suited_tight b kind fitting = elim (where_suited g s kind b fitting) [
    | inl records ↦ and_left (is_claimed before b) (is_among b (held_blocks after)) (elim (cases_Bool (is_claimed before b)) [
      | inl claimed ↦ absurd (both_ways (is_body g b) (no_body g kind b records) (body_before b claimed))
      | inr free ↦ free
    ])
    | inr found ↦ not_held b (sym (ap (is_claimed s) found.block) ∙ claims_its_block s found.claim found.among)
  ]

  pub all_fit : All (Suitable g s) change.deltas
  all_fit k d inside = (fits_each (slice_index_or change.deltas k d) (Contains-get_or change.deltas k d inside)).0

  pub all_suited : All IsSuited change.deltas
  all_suited k d inside = (fits_each (slice_index_or change.deltas k d) (Contains-get_or change.deltas k d inside)).1

  -- with other deltas, which give what these give, and what became metadata
  module _ (deltas : List Delta) (suited : All IsSuited deltas) (loosened : All (λ e. is_loose before after (e.home / 4096) ≡ true → suits g before e ≡ true) deltas) (still : (b place : ℕ) → place < 4096 → is_given change.deltas b place ≡ true → is_given deltas b place ≡ true)
      (gives : Gives r s deltas) where
    abbrev next : Change
    next = record change { deltas = deltas }

    raw_free : (w : RawWrite) → Contains change.raw w → metadata_length g s (w.first / 8) ≡ 0
    raw_free w here =
        let b = w.first / 8 in
        let body : is_body g b ≡ true = (All-contains (IsInBlock g) change.raw w draft.recorded.raw here).body in
        let none : metadata_length g r b ≡ 0 = All-contains (λ (v : RawWrite). metadata_length g r (v.first / 8) ≡ 0) change.raw w draft.follows.raw_after here in
        elim (cases_Bool (is_claimed s b)) [
          | inr free ↦ none_of_free g s b body free
          | inl claimed ↦
              let found = claim_of s b claimed in
              let c = found.0 in
              let length_now : metadata_length g s b ≡ metadata_claim_length s c = sym (ap (metadata_length g s) found.2) ∙ metadata_of_claim g s s_laid c found.1 in
              elim (goes.news c found.1) [
                | inl old ↦
                    let length_then : metadata_length g r b ≡ metadata_claim_length r c = sym (ap (metadata_length g r) found.2) ∙ metadata_of_claim g r r_laid c old in
                    elim (goes.keeps c old) [
                      | inl keeps ↦ elim (cases_Bool (suits_claim r Chunk c)) [
                        | inl chunk ↦ absurd (omega (arith, claim_some g (drafted_blocks change base) hands draft.stored c Chunk old chunk, length_then, none))
                        | inr no_chunk ↦ length_now ∙ keeps.same no_chunk ∙ sym length_then ∙ none
                      ]
                      | inr lost ↦ absurd (both_ways (is_claimed s c.block) (held_free g s after stored c.block lost.1).1 (claims_its_block s c found.1))
                    ]
                | inr new ↦ elim (cases_lt 0 (metadata_claim_length s c)) [
                  | inl some ↦ absurd (All-contains (λ (v : RawWrite). v.first / 8 ≢ c.block) change.raw w (new.unwritten some) here (sym found.2))
                  | inr nothing ↦ omega (arith, length_now, nothing)
                ]
              ]
        ]

    -- what is metadata of the block after and wasn't in the reading before the step
    newly_given : (b place : ℕ) → metadata_length g r b ≤ place → place < metadata_length g s b → is_given deltas b place ≡ true
    newly_given b place low high = elim (cases_Bool (is_body g b)) [
      | inr no_body ↦ absurd (omega (arith, low, high, of_no_body g r b r_laid no_body, of_no_body g s b s_laid no_body))
      | inl body ↦ elim (cases_Bool (is_claimed s b)) [
        | inr free ↦ absurd (omega (arith, high, none_of_free g s b body free))
        | inl claimed ↦
            let found = claim_of s b claimed in
            let c = found.0 in
            let below : place < metadata_claim_length s c = omega (arith, high, metadata_of_claim g s s_laid c found.1, ap (metadata_length g s) found.2) in
            subst (λ (n : ℕ). is_given deltas n place ≡ true) found.2 (elim (cases_Bool (is_claimed r c.block)) [
              | inr new ↦ gives.new c found.1 new place below
              | inl old ↦
                  let its = claim_of r c.block old in
                  let same : its.0 ≡ c = elim (goes.keeps its.0 its.1) [
                    | inl keeps ↦ one_claim g s s_laid c its.0 found.1 keeps.there its.2
                    | inr lost ↦ absurd (both_ways (is_claimed s c.block) (ap (is_claimed s) (sym its.2) ∙ (held_free g s after stored its.0.block lost.1).1) (claims_its_block s c found.1))
                  ] in
                  let among : Contains (claims_of r) c = subst (λ (x : Claim). Contains (claims_of r) x) same its.1 in
                  gives.longer c among found.1 place (omega (arith, low, metadata_of_claim g r r_laid c among, ap (metadata_length g r) found.2)) below
            ])
      ]
    ]

    given_now : (b place : ℕ) → metadata_length g before b ≤ place → place < metadata_length g s b → is_given deltas b place ≡ true
    given_now b place low high = elim (cases_lt place (metadata_length g r b)) [
      | inl old ↦ still b place (omega (arith, high, at_most_a_block g others after stored b)) (draft.follows.given b place low old)
      | inr past ↦ newly_given b place past high
    ]

    stays_through : (b : ℕ) → is_claimed before b ≡ true → frees change b ≡ false → is_loose before after b ≡ false
        → StaysClaimed g before s b × (metadata_length g before b ≤ metadata_length g s b)
    stays_through b claimed unfreed tight =
        let first = draft.follows.stays b claimed unfreed (not_loose b tight) in
        let grown = draft.follows.grows b claimed unfreed (not_loose b tight) in
        let second = stays_unless b first.claimed tight in (
          record {
            claimed = second.0.claimed;
            kinds = λ kind. second.0.kinds kind ∙ first.kinds kind;
            length = λ no_chunk. second.0.length (first.kinds Chunk ∙ no_chunk) ∙ first.length no_chunk;
          },
          (let more : metadata_length g before b ≤ metadata_length g s b = omega (arith, grown, second.1) in more),
        )

    comes : (b : ℕ) → is_claimed before b ≡ false → is_claimed s b ≡ true → ComesClaimed g next taken s b
    comes b was claimed =
        let found = claim_of s b claimed in
        let c = found.0 in
        let body : is_body g b ≡ true = sym (ap (is_body g) found.2) ∙ body_of_claim g s s_laid c found.1 in
        let bit : block_bit g s b ≡ true = bit_says g s after stored b body ∙ or_left (is_claimed s b) (is_among b (held_blocks after)) claimed in
        elim (cases_Bool (is_claimed r b)) [
          | inl old ↦
              let first = draft.follows.claimed b was old in
              let kept = (stays_unless b old (not_held b claimed)).0 in
              record {
                body = body;
                in_transaction = first.in_transaction;
                bit = bit;
                whole = λ chunk place low. still b place low (first.whole (sym (kept.kinds Chunk) ∙ chunk) place low);
              }
          | inr new ↦
              let fresh : is_claimed r c.block ≡ false = ap (is_claimed r) found.2 ∙ new in
              record {
                body = body;
                in_transaction = elim (goes.news c found.1) [
                  | inl old ↦ absurd (both_ways (is_claimed r c.block) fresh (claims_its_block r c old))
                  | inr may ↦ sym (ap taken found.2) ∙ may.in_transaction
                ];
                bit = bit;
                whole = λ chunk place low. subst (λ (n : ℕ). is_given deltas n place ≡ true) found.2
                    (gives.whole c found.1 fresh (sym (suits_by_claim g s s_laid c found.1 Chunk) ∙ ap (suits_block g s Chunk) found.2 ∙ chunk) place low);
              }
        ]

    -- so it follows
    pub follows_on : FollowsSoFar g next taken (is_loose before after) before s
    follows_on = record {
      raw_before = draft.follows.raw_before;
      raw_after = λ k d inside. raw_free (slice_index_or change.raw k d) (Contains-get_or change.raw k d inside);
      suited = suited;
      loosened = loosened;
      given = given_now;
      stays = λ b claimed unfreed tight. (stays_through b claimed unfreed tight).0;
      grows = λ b claimed unfreed tight. (stays_through b claimed unfreed tight).1;
      claimed = comes;
      marked = λ b freed.
          let first = draft.follows.marked b freed in
          record { claimed = first.claimed; unclaimed = still_free b first.claimed first.unclaimed; metadata = first.metadata };
      bits = record {
        set = λ b body. ap (λ (t : Bool). not (block_bit g before b) && t) (goes.bits b body) ∙ draft.follows.bits.set b body;
        cleared = λ b body. ap (λ (t : Bool). block_bit g before b && not t) (goes.bits b body) ∙ draft.follows.bits.cleared b body;
      };
    }
