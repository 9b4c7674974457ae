-- What a store takes lays its deltas over the running ones as a journal asks.
use Rattle.std.proofs.Common.{◌≡◌, ◌≤◌, inl, inr, ℕ, ◌/◌, eqb, Bool, true, false, not, ◌&&◌, ◌||◌, List, [], ◌∷◌, refl, sym, ap, subst, ◌∙◌, arith}
use Rattle.std.specs.Prelude.{nat_lt, All, Contains, slice_index_or}
use Rattle.std.specs.List.{list_any}
use Rattle.std.proofs.lemmas.Bool.{cases_Bool, true≢false, false≢true, eqb-true, eq-eqb, and_parts, and_from, or_left, or_right, or_parts, lt-ltb}
use Rattle.std.proofs.lemmas.List.Elements.{All-contains, All-contains_itself}
use Rattle.lufs_base.specs.Layout.{blocks_of, region_of}
use Rattle.lufs_base.specs.declared.geometry.Geometry.{Geometry}
use Rattle.lufs_base.specs.declared.geometry.Region.{Region}
use Rattle.lufs_base.specs.declared.geometry.Region.TheVariants.{Boot, Super, Log, GroupBlock, Inodes, Body}
use Rattle.lufs_base.specs.declared.delta.Delta.{Delta}
use Rattle.lufs_base.specs.declared.delta.DeltaKind.{DeltaKind}
use Rattle.lufs_base.specs.declared.delta.DeltaKind.TheVariants.{Group, Inode, Chunk, Pointers, Zero, LinkText, Cancel}
use Rattle.volume_model.specs.declared.hand.Hand.{Hand}
use Rattle.volume_model.specs.Format.{Blocks, is_body, is_body_region}
use Rattle.volume_model.specs.Crash.{Record}
use Rattle.volume_model.specs.Log.{AreLoggable, may_be_logged, is_cancel, is_home_of, delta_bytes}
use Rattle.volume_model.specs.Sound.{Reading, reading_of, is_claimed, is_among, block_bit, metadata_length, Claim, claims_of, IsLaid, IsStored}
use Rattle.volume_laws.proofs.ClaimFacts.{claims_its_block}
use Rattle.volume_laws.proofs.StoredClaims.{stored_is_laid}
use Rattle.meta_store.specs.declared.change.Change.{Change as StoreChange}
use Rattle.meta_store.specs.declared.change.Freed.{Freed as FreedBlock}
use Rattle.meta_store.specs.Changes.{frees, frees_metadata}
use Rattle.meta_store.specs.Suited.{suits_claim, suits_block, suits}
use Rattle.meta_store.specs.Conditions.{MayFollow}
use Rattle.meta_store.specs.Merged.{all_merged}
use Rattle.meta_store.proofs.MergedTable.{table_parts}
use Rattle.draft_laws.proofs.ClaimUses.{passes_of, some_passes}
use Rattle.draft_laws.proofs.MetadataLengths.{suited_some}
use Rattle.draft_laws.proofs.SuitedBeside.{by_claims, unsuited}
use Rattle.journal_model.specs.Journals.{Freed, Journal}
use Rattle.journal_model.specs.Versions.{Running, Sealed, sealed_txs, running_tx, next_header, later_of}
use Rattle.journal_model.specs.LaidBlocks.{is_cancelled_in, is_cancelled_by}
use Rattle.journal_model.specs.BlockRoles.{Roles, is_metadata, is_claimed as has_claim}
use Rattle.journal_model.specs.Batches.{is_released}
use Rattle.journal_model.specs.Changes.{MovesDeltas}
use Rattle.journal_model.specs.Safety.{IsSafe}
use Rattle.journal_laws.proofs.OwnerFacts.{released_owner}
use Rattle.journal_laws.proofs.Replays.{cancelled-append}
use Rattle.history_laws.specs.VolumeRoles.{role_of}
use Rattle.store_laws.specs.Tied.{is_live, as_applied}
use Rattle.store_laws.proofs.MovedRoles.{freed_numbers, metadata_of_role, claim_of_role}
use Rattle.store_laws.proofs.MergedAll.{MayMerge, is_merged, are_merged, all_merged_bytes}

body_of_region : (region : Region) → is_home_of Cancel region ≡ true → is_body_region region ≡ true
body_of_region Boot home = absurd (false≢true home)
body_of_region Super home = absurd (false≢true home)
body_of_region Log home = absurd (false≢true home)
body_of_region (GroupBlock n) home = absurd (false≢true home)
body_of_region (Inodes n) home = absurd (false≢true home)
body_of_region (Body n) home = refl

cancel_only : (kind : DeltaKind) → is_cancel kind ≡ true → kind ≡ Cancel
cancel_only Group is = absurd (false≢true is)
cancel_only Inode is = absurd (false≢true is)
cancel_only Chunk is = absurd (false≢true is)
cancel_only Pointers is = absurd (false≢true is)
cancel_only Zero is = absurd (false≢true is)
cancel_only LinkText is = absurd (false≢true is)
cancel_only Cancel is = refl

module _ (g : Geometry) (before after : Blocks) (hands then : List Hand) (stored : IsStored g (reading_of g before) hands) (stored_after : IsStored g (reading_of g after) then) (roles : Roles) (r : Record) (j : Journal)
    (safe : IsSafe g roles r j) (change : StoreChange) (taken : ℕ → Bool) (follows : MayFollow g change taken (reading_of g before) (reading_of g after)) (are : AreLoggable g change.deltas)
    (cancels : (b : ℕ) → is_cancelled_in change.deltas b ≡ frees_metadata change b)
    (roles_read : (b : ℕ) → roles Running b ≡ role_of g (reading_of g before) b) (owners_read : (b : ℕ) → is_body g b ≡ true → is_live (j.owners b) ≡ block_bit g (reading_of g before) b)
    (suited : All (λ d. suits g (reading_of g before) d ≡ true) j.running) (may_take : All (λ b. is_released j b ≡ true) change.taken)
    (room : delta_bytes change.deltas ≤ j.unspent) where
  abbrev r0 : Reading
  r0 = reading_of g before

  abbrev r1 : Reading
  r1 = reading_of g after

  -- a block on which a delta lies that isn't cancelled stays of its kind
  suits_still : (kind : DeltaKind) (b : ℕ) → is_cancelled_in change.deltas b ≡ false → suits_block g r0 kind b ≡ true → suits_block g r1 kind b ≡ true
  suits_still kind b kept its = by_kind kind its
    where
      stays : (kind : DeltaKind) → suits_block g r0 kind b ≡ true → is_claimed r0 b ≡ true → suits_block g r1 kind b ≡ true
      stays kind suits claimed = elim (cases_Bool (frees change b)) [
        | inl freed ↦
            let metadata = (follows.marked b freed).metadata in
            absurd (true≢false (sym (lt-ltb 0 (metadata_length g r0 b) (suited_some g before hands stored kind b suits)) ∙ sym metadata ∙ sym (cancels b) ∙ kept))
        | inr free ↦ (follows.stays b claimed free).kinds kind ∙ suits
      ]

      by_claim : (kind : DeltaKind) → suits_block g r0 kind b ≡ true → list_any (λ (claim : Claim). eqb claim.block b && suits_claim r0 kind claim) (claims_of r0) ≡ true → suits_block g r1 kind b ≡ true
      by_claim kind suits some =
          let found = by_claims r0 kind b some in
          stays kind suits (ap (is_claimed r0) (sym found.block) ∙ claims_its_block r0 found.claim found.among)

      by_kind : (kind : DeltaKind) → suits_block g r0 kind b ≡ true → suits_block g r1 kind b ≡ true
      by_kind Group suits = suits
      by_kind Inode suits = suits
      by_kind Chunk suits = by_claim Chunk suits suits
      by_kind Pointers suits = by_claim Pointers suits suits
      by_kind Zero suits = by_claim Zero suits suits
      by_kind LinkText suits = by_claim LinkText suits suits
      by_kind Cancel suits = absurd (false≢true suits)

  suited_still : (d : Delta) → suits g r0 d ≡ true → is_cancelled_in change.deltas (d.home / 4096) ≡ false → suits g r1 d ≡ true
  suited_still d is kept = by_cancel (is_cancel d.kind) is
    where
      by_cancel : (t : Bool) → (t || suits_block g r0 d.kind (d.home / 4096)) ≡ true → (t || suits_block g r1 d.kind (d.home / 4096)) ≡ true
      by_cancel true is = refl
      by_cancel false is = suits_still d.kind (d.home / 4096) kept is

  -- a block that the running deltas cancel isn't claimed after the change
  cancelled_free : (b : ℕ) → is_body g b ≡ true → is_cancelled_in j.running b ≡ true → is_claimed r1 b ≡ false
  cancelled_free b body cancelled =
      let by_later : is_cancelled_by (later_of g j Running) b ≡ true =
      cancelled-append (sealed_txs j) (running_tx g j ∷ []) b ∙ or_right (is_cancelled_by (sealed_txs j) b) (is_cancelled_by (running_tx g j ∷ []) b) (or_left (is_cancelled_in j.running b) false cancelled) in
      let free : has_claim (roles Running b) ≡ false = safe.versions.cancelled Running b by_later in
      let free_before : is_claimed r0 b ≡ false = sym (claim_of_role g before hands stored b body) ∙ ap has_claim (sym (roles_read b)) ∙ free in
      let owner = safe.owners.freed_last b free (or_right (has_claim (roles Sealed b)) (is_cancelled_in j.running b) cancelled) in
      elim (cases_Bool (is_claimed r1 b)) [
        | inr free_after ↦ free_after
        | inl claimed ↦
            let set = (follows.claimed b free_before claimed).bit in
            let clear : block_bit g r0 b ≡ false = sym (owners_read b body) ∙ ap is_live owner in
            let among : is_among b change.taken ≡ true = sym (follows.bits.set b body) ∙ ap (λ (t : Bool). not t && block_bit g r1 b) clear ∙ set in
            let found = some_passes (λ m. eqb m b) change.taken among in
            let released : is_released j b ≡ true = subst (λ (c : ℕ). is_released j c ≡ true) (eqb-true found.0 b found.2) (All-contains (λ b. is_released j b ≡ true) change.taken found.0 may_take found.1) in
            absurd (released_owner j b (Freed (next_header g j).tid) refl released owner)
      ]

  abbrev laid_after : IsLaid g r1
  laid_after = stored_is_laid g r1 then stored_after

  apart_of : (e d : Delta) → Contains j.running e → is_cancel e.kind ≡ true → suits g r1 d ≡ true → is_cancel d.kind ≡ false → e.home / 4096 ≡ d.home / 4096 → ⊥
  apart_of e d here cancel is lays same =
      let b = e.home / 4096 in
      let may = All-contains (λ d. may_be_logged g d.kind d.home d.len ≡ true) j.running e safe.versions.loggable.table here in
      let place = and_parts (nat_lt b (blocks_of g)) (is_home_of e.kind (region_of g b)) (table_parts g e.kind e.home e.len may).0 in
      let body : is_body g b ≡ true = and_from (nat_lt b (blocks_of g)) (is_body_region (region_of g b)) place.0 (body_of_region (region_of g b) (sym (ap (λ (k : DeltaKind). is_home_of k (region_of g b)) (cancel_only e.kind cancel)) ∙ place.1)) in
      let cancelled : is_cancelled_in j.running b ≡ true = passes_of (λ x. is_cancel x.kind && eqb (x.home / 4096) b) j.running e here (and_from (is_cancel e.kind) (eqb (e.home / 4096) b) cancel (eq-eqb b b refl)) in
      let its : suits_block g r1 d.kind (d.home / 4096) ≡ true = sym (ap (λ (t : Bool). t || suits_block g r1 d.kind (d.home / 4096)) lays) ∙ is in
      unsuited g r1 laid_after d.kind b body (cancelled_free b body cancelled) (ap (suits_block g r1 d.kind) same ∙ its)

  may_merge : MayMerge g r1 laid_after j.running change.deltas
  may_merge = record {
    are = safe.versions.loggable;
    are_more = are;
    suited_more = follows.suited;
    suited = λ k e inside kept. suited_still (slice_index_or j.running k e) (suited k e inside) kept;
    apart = λ k e inside cancel i d within lays same.
        apart_of (slice_index_or j.running k e) (slice_index_or change.deltas i d) (All-contains_itself j.running k e inside) cancel (follows.suited i d within) lays same;
  }

  pub suited_after : All (λ d. suits g r1 d ≡ true) (all_merged j.running change.deltas)
  suited_after = (are_merged g r1 laid_after j.running change.deltas may_merge).suited

  cancelled_is : (b : ℕ) → is_cancelled_in change.deltas b ≡ (is_among b (as_applied change).freed && is_metadata (roles Running b))
  cancelled_is b =
      let metadata : is_metadata (roles Running b) ≡ nat_lt 0 (metadata_length g r0 b) = ap is_metadata (roles_read b) ∙ metadata_of_role g before hands stored b in
      cancels b ∙ elim (cases_Bool (frees change b)) [
        | inl freed ↦
            (follows.marked b freed).metadata ∙ sym metadata ∙ sym (ap (λ (t : Bool). t && is_metadata (roles Running b)) (freed_numbers change.freed b ∙ freed))
        | inr free ↦ marked_none b free ∙ sym (ap (λ (t : Bool). t && is_metadata (roles Running b)) (freed_numbers change.freed b ∙ free))
      ]
    where
      none_of : (freed : List FreedBlock) (b : ℕ) → list_any (λ f. eqb f.block.0 b) freed ≡ false → list_any (λ f. eqb f.block.0 b && f.meta) freed ≡ false
      none_of [] b none = refl
      none_of (f ∷ freed) b none =
          let parts = or_parts (eqb f.block.0 b) (list_any (λ f. eqb f.block.0 b) freed) none in
          ap (λ (t : Bool). (t && f.meta) || list_any (λ f. eqb f.block.0 b && f.meta) freed) parts.0 ∙ none_of freed b parts.1

      marked_none : (b : ℕ) → frees change b ≡ false → frees_metadata change b ≡ false
      marked_none b free = none_of change.freed b free

  pub moves_deltas : MovesDeltas g roles j (as_applied change) (role_of g r1) (all_merged j.running change.deltas)
  moves_deltas = record {
    merged = is_merged g r1 laid_after j.running change.deltas may_merge;
    table = are.table;
    laid = λ k d inside lays.
        let e = slice_index_or change.deltas k d in
        metadata_of_role g after then stored_after (e.home / 4096) ∙ lt-ltb 0 (metadata_length g r1 (e.home / 4096)) (follows.deltas k d inside lays);
    cancels = cancelled_is;
    room = omega (arith, all_merged_bytes j.running change.deltas, room);
  }
