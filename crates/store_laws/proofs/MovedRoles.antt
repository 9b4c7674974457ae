-- What a store takes moves the roles of the running version as a journal asks.
use Rattle.std.proofs.Common.{◌≡◌, ◌<◌, ◌≤◌, ◌⊎◌, inl, inr, ℕ, ◌+◌, ◌*◌, eqb, cond, Bool, true, false, not, ◌&&◌, ◌||◌, List, [], ◌∷◌, map, None, IsSome, is_some, refl, sym, ap, subst, ◌∙◌, arith}
use Rattle.std.specs.Prelude.{nat_lt, All}
use Rattle.std.specs.List.{list_any, last_or}
use Rattle.std.proofs.lemmas.Bool.{cases_Bool, cases_eq, true≢false, false≢true, both_ways, eqb-true, eq-eqb, ne_eqb, lt-ltb, cond-true, cond-false}
use Rattle.std.proofs.lemmas.List.Elements.{All-contains, recursion_from_All}
use Rattle.lufs_base.specs.declared.geometry.Geometry.{Geometry}
use Rattle.lufs_base.specs.declared.delta.Delta.{Delta}
use Rattle.lufs_base.specs.declared.delta.DeltaKind.TheVariants.{Chunk}
use Rattle.volume_model.specs.declared.hand.Hand.{Hand}
use Rattle.volume_model.specs.Format.{Blocks, is_body}
use Rattle.volume_model.specs.Log.{AreLoggable}
use Rattle.volume_model.specs.Sound.{Reading, reading_of, is_claimed, is_among, block_bit, metadata_length, length_of_records, IsStored}
use Rattle.meta_store.specs.declared.change.Change.{Change as StoreChange}
use Rattle.meta_store.specs.declared.change.Freed.{Freed as FreedBlock}
use Rattle.meta_store.specs.Laid.{IsWithinBlock}
use Rattle.meta_store.specs.Changes.{frees}
use Rattle.meta_store.specs.Suited.{suits_block}
use Rattle.meta_store.specs.Conditions.{MayFollow, is_given}
use Rattle.meta_store.proofs.LogLaid.{given_by_block}
use Rattle.meta_store.proofs.MergedTable.{all_within}
use Rattle.draft_laws.proofs.ClaimUses.{some_passes}
use Rattle.draft_laws.proofs.MetadataLengths.{suited_some, at_most_a_block}
use Rattle.journal_model.specs.Journals.{Owner, Live, Released, Freed, Journal}
use Rattle.journal_model.specs.Versions.{Running, next_header}
use Rattle.journal_model.specs.LaidBlocks.{given_by}
use Rattle.journal_model.specs.BlockRoles.{Role, Metadata, FileBytes, Unclaimed, Roles, is_metadata, is_claimed as has_claim}
use Rattle.journal_model.specs.Batches.{is_released}
use Rattle.journal_model.specs.Changes.{owner_after, MovesRoles}
use Rattle.history_laws.specs.VolumeRoles.{role_of}
use Rattle.store_laws.specs.Tied.{is_live, as_applied}
use Rattle.store_laws.proofs.RolesSeen.{seen, outside, role_in_body, claims_are_bodies, role_outside, unclaimed_length, records_of_body}

-- a freed block's number stands among those freed
pub freed_numbers : (freed : List FreedBlock) (b : ℕ) → is_among b (map (λ f. f.block.0) freed) ≡ list_any (λ f. eqb f.block.0 b) freed
freed_numbers [] b = refl
freed_numbers (f ∷ freed) b = ap (λ (t : Bool). eqb f.block.0 b || t) (freed_numbers freed b)

pub live_is : (owner : Owner) → is_live owner ≡ true → owner ≡ Live
live_is Live live = refl
live_is Released live = absurd (false≢true live)
live_is (Freed tid) live = absurd (false≢true live)

-- whether a byte is given, by its address
given_there : (g : Geometry) (deltas : List Delta) (b place : ℕ) → AreLoggable g deltas → place < 4096 → is_given deltas b place ≡ true → IsSome (given_by deltas (4096 * b + place))
given_there g deltas b place are low given =
    sym (ap (λ (l : List ℕ). is_some (last_or None l)) (given_by_block b place (4096 * b + place) deltas low refl (recursion_from_All IsWithinBlock deltas (all_within g deltas are)))) ∙ given

-- what a role says of what is seen
seen_claim : (claimed chunk : Bool) (m : ℕ) → has_claim (seen claimed chunk m) ≡ claimed
seen_claim false chunk m = refl
seen_claim true chunk m = elim (eqb m 0) as (λ t. has_claim (cond t FileBytes (cond chunk (Metadata 4096) (Metadata m))) ≡ true) [
  | true ↦ refl
  | false ↦ elim chunk as (λ t. has_claim (cond t (Metadata 4096) (Metadata m)) ≡ true) [ true ↦ refl | false ↦ refl ]
]

bytes_of_role : {a b : ℕ} → Metadata a ≡ Metadata b → a ≡ b
bytes_of_role is = cc

pub record SeenAsMetadata (c chunk : Bool) (m n : ℕ) : Type 0 where
  pub claimed : c ≡ true
  pub some : 0 < m
  pub length : (chunk ≡ true) × (n ≡ 4096) ⊎ (chunk ≡ false) × (n ≡ m)

pub seen_metadata : (claimed chunk : Bool) (m n : ℕ) → seen claimed chunk m ≡ Metadata n → SeenAsMetadata claimed chunk m n
seen_metadata false chunk m n is = absurd cc
seen_metadata true chunk m n is = elim (cases_eq m 0) [
  | inl none ↦
      let file : FileBytes ≡ Metadata n = sym (cond-true (eqb m 0) FileBytes (cond chunk (Metadata 4096) (Metadata m)) (eq-eqb m 0 none)) ∙ is in
      absurd cc
  | inr some ↦
      let is_role : cond chunk (Metadata 4096) (Metadata m) ≡ Metadata n = sym (cond-false (eqb m 0) FileBytes (cond chunk (Metadata 4096) (Metadata m)) (ne_eqb m 0 some)) ∙ is in
      record { claimed = refl; some = omega (arith, some); length = by_chunk chunk is_role }
]
  where
    by_chunk : (t : Bool) → cond t (Metadata 4096) (Metadata m) ≡ Metadata n → (t ≡ true) × (n ≡ 4096) ⊎ (t ≡ false) × (n ≡ m)
    by_chunk true is = inl (refl, sym (bytes_of_role is))
    by_chunk false is = inr (refl, sym (bytes_of_role is))

pub seen_as_metadata : (chunk : Bool) (m : ℕ) → 0 < m → is_metadata (seen true chunk m) ≡ true
seen_as_metadata chunk m some =
    ap is_metadata (cond-false (eqb m 0) FileBytes (cond chunk (Metadata 4096) (Metadata m)) (ne_eqb m 0 (λ none. omega (arith, none, some))))
    ∙ by_chunk chunk
  where
    by_chunk : (t : Bool) → is_metadata (cond t (Metadata 4096) (Metadata m)) ≡ true
    by_chunk true = refl
    by_chunk false = refl

module _ (g : Geometry) (blocks : Blocks) (hands : List Hand) (stored : IsStored g (reading_of g blocks) hands) where
  abbrev r : Reading
  r = reading_of g blocks

  -- a body block is claimed by its role where an inode claims it
  pub claim_of_role : (b : ℕ) → is_body g b ≡ true → has_claim (role_of g r b) ≡ is_claimed r b
  claim_of_role b body = ap has_claim (role_in_body g blocks hands stored b body) ∙ seen_claim (is_claimed r b) (suits_block g r Chunk b) (metadata_length g r b)

  -- a block is metadata by its role where some of it is read
  pub metadata_of_role : (b : ℕ) → is_metadata (role_of g r b) ≡ nat_lt 0 (metadata_length g r b)
  metadata_of_role b = elim (cases_Bool (is_body g b)) [
    | inl body ↦ ap is_metadata (role_in_body g blocks hands stored b body) ∙ elim (cases_Bool (is_claimed r b)) [
      | inl claimed ↦ ap (λ (t : Bool). is_metadata (seen t (suits_block g r Chunk b) (metadata_length g r b))) claimed ∙ elim (cases_eq (metadata_length g r b) 0) [
        | inl none ↦ ap (λ (n : ℕ). is_metadata (seen true (suits_block g r Chunk b) n)) none ∙ sym (ap (λ (n : ℕ). nat_lt 0 n) none)
        | inr some ↦
            let there : 0 < metadata_length g r b = omega (arith, some) in
            seen_as_metadata (suits_block g r Chunk b) (metadata_length g r b) there ∙ sym (lt-ltb 0 (metadata_length g r b) there)
      ]
      | inr free ↦
          ap (λ (t : Bool). is_metadata (seen t (suits_block g r Chunk b) (metadata_length g r b))) free
          ∙ sym (ap (λ (n : ℕ). nat_lt 0 n) (unclaimed_length g blocks hands stored b free ∙ records_of_body g b body))
    ]
    | inr no_body ↦
        let free : is_claimed r b ≡ false = elim (cases_Bool (is_claimed r b)) [ inl claimed ↦ absurd (both_ways (is_body g b) no_body (claims_are_bodies g blocks hands stored b claimed)) | inr free ↦ free ] in
        ap is_metadata (role_outside g blocks hands stored b no_body) ∙ by_records (length_of_records g b) ∙ sym (ap (λ (n : ℕ). nat_lt 0 n) (unclaimed_length g blocks hands stored b free))
  ]
    where
      by_records : (n : ℕ) → is_metadata (outside n) ≡ nat_lt 0 n
      by_records n = elim (cases_eq n 0) [
        | inl none ↦ ap (λ (n : ℕ). is_metadata (outside n)) none ∙ sym (ap (λ (n : ℕ). nat_lt 0 n) none)
        | inr some ↦ ap is_metadata (cond-false (eqb n 0) Unclaimed (Metadata 4096) (ne_eqb n 0 some)) ∙ sym (lt-ltb 0 n (omega (arith, some)))
      ]

  pub role_sizes : (b n : ℕ) → role_of g r b ≡ Metadata n → n ≤ 4096
  role_sizes b n is = elim (cases_Bool (is_body g b)) [
    | inl body ↦
        let how = seen_metadata (is_claimed r b) (suits_block g r Chunk b) (metadata_length g r b) n (sym (role_in_body g blocks hands stored b body) ∙ is) in
        elim how.length [ inl whole ↦ omega (arith, whole.1) | inr part ↦ omega (arith, part.1, at_most_a_block g blocks hands stored b) ]
    | inr no_body ↦ by_records (length_of_records g b) (sym (role_outside g blocks hands stored b no_body) ∙ is)
  ]
    where
      by_records : (k : ℕ) → outside k ≡ Metadata n → n ≤ 4096
      by_records k = from (eqb k 0)
        where
          from : (t : Bool) → cond t Unclaimed (Metadata 4096) ≡ Metadata n → n ≤ 4096
          from true is = absurd cc
          from false is = omega (arith, bytes_of_role is)

module _ (g : Geometry) (before after : Blocks) (hands then : List Hand) (stored : IsStored g (reading_of g before) hands) (stored_after : IsStored g (reading_of g after) then) (roles : Roles) (j : Journal)
    (change : StoreChange) (taken : ℕ → Bool) (follows : MayFollow g change taken (reading_of g before) (reading_of g after)) (are : AreLoggable g change.deltas)
    (roles_read : (b : ℕ) → roles Running b ≡ role_of g (reading_of g before) b) (owners_read : (b : ℕ) → is_body g b ≡ true → is_live (j.owners b) ≡ block_bit g (reading_of g before) b)
    (may_take : All (λ b. is_released j b ≡ true) change.taken) where
  abbrev r0 : Reading
  r0 = reading_of g before

  abbrev r1 : Reading
  r1 = reading_of g after

  abbrev to : ℕ → Role
  to = role_of g r1

  claimed_before : (b : ℕ) → is_body g b ≡ true → has_claim (roles Running b) ≡ is_claimed r0 b
  claimed_before b body = ap has_claim (roles_read b) ∙ claim_of_role g before hands stored b body

  claimed_after : (b : ℕ) → is_body g b ≡ true → has_claim (to b) ≡ is_claimed r1 b
  claimed_after b body = claim_of_role g after then stored_after b body

  same_outside : (b : ℕ) → is_body g b ≡ false → to b ≡ roles Running b
  same_outside b no_body = role_outside g after then stored_after b no_body ∙ sym (role_outside g before hands stored b no_body) ∙ sym (roles_read b)

  pub frees_is : (b : ℕ) → is_among b (as_applied change).freed ≡ frees change b
  frees_is b = freed_numbers change.freed b

  same_seen : (c0 c1 : Bool) (m0 m1 : ℕ) → c1 ≡ c0 → (c0 ≡ true → 0 < m0) → (c1 ≡ true → 0 < m1) → (c0 ≡ false → m1 ≡ m0) → seen true c1 m1 ≡ seen true c0 m0
  same_seen true true m0 m1 same some some_too long =
      cond-false (eqb m1 0) FileBytes (Metadata 4096) (ne_eqb m1 0 (λ none. omega (arith, none, some_too refl)))
      ∙ sym (cond-false (eqb m0 0) FileBytes (Metadata 4096) (ne_eqb m0 0 (λ none. omega (arith, none, some refl))))
  same_seen false false m0 m1 same some some_too long = ap (λ (n : ℕ). seen true false n) (long refl)
  same_seen true false m0 m1 same some some_too long = absurd (false≢true same)
  same_seen false true m0 m1 same some some_too long = absurd (true≢false same)

  kept : (b : ℕ) → has_claim (roles Running b) ≡ true → is_among b (as_applied change).freed ≡ false → to b ≡ roles Running b
  kept b claimed free = elim (cases_Bool (is_body g b)) [
    | inr no_body ↦ same_outside b no_body
    | inl body ↦
        let claims : is_claimed r0 b ≡ true = sym (claimed_before b body) ∙ claimed in
        let stays = follows.stays b claims (sym (frees_is b) ∙ free) in
        role_in_body g after then stored_after b body
        ∙ ap (λ (t : Bool). seen t (suits_block g r1 Chunk b) (metadata_length g r1 b)) stays.claimed
        ∙ same_seen (suits_block g r0 Chunk b) (suits_block g r1 Chunk b) (metadata_length g r0 b) (metadata_length g r1 b) (stays.kinds Chunk) (suited_some g before hands stored Chunk b) (suited_some g after then stored_after Chunk b) stays.length
        ∙ ap (λ (t : Bool). seen t (suits_block g r0 Chunk b) (metadata_length g r0 b)) (sym claims)
        ∙ sym (role_in_body g before hands stored b body) ∙ sym (roles_read b)
  ]

  -- the owner after the change is live where the bit is set after it
  pub live_after : (b : ℕ) → is_body g b ≡ true → is_live (owner_after g j (as_applied change) b) ≡ block_bit g r1 b
  live_after b body =
      let tid = (next_header g j).tid in
      ap (λ (t : Bool). is_live (cond t (Freed tid) (cond (is_among b change.taken) Live (j.owners b)))) (frees_is b ∙ sym (follows.bits.cleared b body))
      ∙ ap (λ (t : Bool). is_live (cond (block_bit g r0 b && not (block_bit g r1 b)) (Freed tid) (cond t Live (j.owners b)))) (sym (follows.bits.set b body))
      ∙ by_bits tid (j.owners b) (block_bit g r0 b) (block_bit g r1 b) (owners_read b body)
    where
      by_bits : (tid : ℕ) (owner : Owner) (b0 b1 : Bool) → is_live owner ≡ b0 → is_live (cond (b0 && not b1) (Freed tid) (cond (not b0 && b1) Live owner)) ≡ b1
      by_bits tid owner true true is = is
      by_bits tid owner true false is = refl
      by_bits tid owner false true is = refl
      by_bits tid owner false false is = is

  owner_claimed : (b : ℕ) → is_body g b ≡ true → block_bit g r1 b ≡ true → owner_after g j (as_applied change) b ≡ Live
  owner_claimed b body set = live_is (owner_after g j (as_applied change) b) (live_after b body ∙ set)

  body_if_new : (b : ℕ) → has_claim (roles Running b) ≡ false → has_claim (to b) ≡ true → is_body g b ≡ true
  body_if_new b free claimed = elim (cases_Bool (is_body g b)) [
    | inl body ↦ body
    | inr no_body ↦ absurd (false≢true (sym free ∙ sym (ap has_claim (same_outside b no_body)) ∙ claimed))
  ]

  covered : (b n i : ℕ) → has_claim (roles Running b) ≡ false → to b ≡ Metadata n → i < n → IsSome (given_by change.deltas (4096 * b + i))
  covered b n i free is within =
      let claimed : has_claim (to b) ≡ true = ap has_claim is in
      let body = body_if_new b free claimed in
      let free_before : is_claimed r0 b ≡ false = sym (claimed_before b body) ∙ free in
      let now : is_claimed r1 b ≡ true = sym (claimed_after b body) ∙ claimed in
      let comes = follows.claimed b free_before now in
      let how = seen_metadata (is_claimed r1 b) (suits_block g r1 Chunk b) (metadata_length g r1 b) n (sym (role_in_body g after then stored_after b body) ∙ is) in
      let low : i < 4096 = omega (arith, within, role_sizes g after then stored_after b n is) in
      given_there g change.deltas b i are low (elim how.length [
        | inl whole ↦ comes.whole whole.0 i low
        | inr part ↦
            let none : metadata_length g r0 b ≡ 0 = unclaimed_length g before hands stored b free_before ∙ records_of_body g b body in
            follows.given b i (omega (arith, none)) (omega (arith, within, part.1))
      ])

  pub moves_roles : MovesRoles g roles j (as_applied change) to
  moves_roles = record {
    taken = λ b among.
        let found = some_passes (λ m. eqb m b) change.taken among in
        subst (λ (c : ℕ). is_released j c ≡ true) (eqb-true found.0 b found.2) (All-contains (λ b. is_released j b ≡ true) change.taken found.0 may_take found.1);
    given_back = λ b among. absurd (false≢true among);
    freed = λ b among.
        let up = follows.marked b (sym (frees_is b) ∙ among) in
        let body = claims_are_bodies g before hands stored b up.claimed in
        (claimed_before b body ∙ up.claimed, claimed_after b body ∙ up.unclaimed);
    kept = kept;
    claimed = λ b free claimed.
        let body = body_if_new b free claimed in
        let comes = follows.claimed b (sym (claimed_before b body) ∙ free) (sym (claimed_after b body) ∙ claimed) in
        (body, owner_claimed b body comes.bit);
    covered = covered;
    sizes = role_sizes g after then stored_after;
  }
