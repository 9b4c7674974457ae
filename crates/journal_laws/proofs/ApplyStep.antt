-- A change is applied: deltas are laid over the running ones, and blocks are taken, freed and given back.
use Rattle.std.proofs.Common.{◌≡◌, ◌<◌, ◌≤◌, ◌⊎◌, inl, inr, ℕ, ◌+◌, ◌*◌, ◌/◌, eqb, Bool, true, false, not, ◌||◌, List, [], ◌∷◌, ◌++◌, length, drop, Option, Some, IsSome, refl, sym, ap, ◌∙◌, subst, arith, append_assoc, length-append}
use Rattle.std.specs.List.{list_any, AllByRecursion}
use Rattle.std.proofs.lemmas.Bool.{eqb-true, not-true, cases_Bool, cases_lt, false≢true, and_parts, and_from, and_left, and_right, or_cases, or_parts, false_from_ne_true}
use Rattle.std.proofs.lemmas.List.Elements.{recursion_from_All}
use Rattle.std.proofs.lemmas.List.Sums.{sum_by-cons}
use Rattle.std.proofs.Math.Bool.{or-false}
use Rattle.lufs_base.specs.Layout.{group_start, blocks_of}
use Rattle.lufs_base.specs.declared.geometry.Geometry.{Geometry}
use Rattle.lufs_base.specs.declared.delta.Delta.{Delta}
use Rattle.volume_model.specs.declared.log.Tx.{Tx}
use Rattle.volume_model.specs.Format.{Image}
use Rattle.volume_model.specs.Log.{delta_bytes, is_cancel, live_deltas, logged_len, lays_on}
use Rattle.volume_model.specs.Crash.{Record, with_calls, present_of}
use Rattle.volume_model.specs.Sound.{is_among}
use Rattle.journal_model.specs.Journals.{Batch, Live, Freed, Journal}
use Rattle.journal_model.specs.Versions.{Version, Published, Sealed, Running, is_logged, next_header, sealed_txs, running_tx, later_of, txs_after, txs_of}
use Rattle.journal_model.specs.LaidBlocks.{given_by, is_laid_by, is_cancelled_in, is_cancelled_by}
use Rattle.journal_model.specs.BlockRoles.{Role, Metadata, Roles, Changes, moved, is_metadata, is_claimed}
use Rattle.journal_model.specs.Batches.{batch_of, held_by, is_held, is_freed_owner, home_count}
use Rattle.journal_model.specs.Room.{IsOpen, pending_bytes}
use Rattle.journal_model.specs.SafeImages.{GivesMetadata, IsSafeImage}
use Rattle.journal_model.specs.Kept.{HaveRoles, IsBatch, IsGone, HaveOwners, HasRoom}
use Rattle.journal_model.specs.Safety.{IsSafe}
use Rattle.journal_model.specs.Changes.{Change, owner_after, MovesRoles, MovesDeltas}
use Rattle.journal_laws.proofs.Replays.{loggable_lie, else_by, laid_later}
use Rattle.journal_laws.proofs.RollFacts.{ring_at_home}
use Rattle.journal_laws.proofs.ReleasedBlocks.{may_be_given_out}
use Rattle.journal_laws.proofs.OpenSteps.{without_calls, roll_kept, sectors_grow}
use Rattle.journal_laws.proofs.RollKept.{metadata_is_claimed}
use Rattle.journal_laws.proofs.RoleFacts.{unclaimed_no_metadata}
use Rattle.journal_laws.proofs.RawStep.{body_place}
use Rattle.journal_laws.proofs.OwnerFacts.{freed_by, owner_freed, owner_taken, owner_given, owner_same, released_no_live, live_no_freed, released_no_freed, released_owner}
use Rattle.journal_laws.proofs.ChangedBytes.{with_change, split, cancels_same, changed_gives}
use Rattle.journal_laws.proofs.MergedDeltas.{table_lies, live_one, laid_parts, laid_before, some_else, some_later, merged_laid}

-- deltas take bytes
no_bytes : (deltas : List Delta) → length deltas ≡ 0 → delta_bytes deltas ≡ 0
no_bytes [] none = refl
no_bytes (d ∷ deltas) none = absurd (omega (arith, none))

some_bytes : (deltas : List Delta) → 1 ≤ length deltas → 16 ≤ delta_bytes deltas
some_bytes [] some = absurd (omega (arith, some))
some_bytes (d ∷ deltas) some = let sum = sum_by-cons (λ (e : Delta). 16 + logged_len e.kind e.len) d deltas in omega (arith, sum)

-- the deltas lie on metadata
laid_on_metadata : (to : ℕ → Role) (b : ℕ) (deltas : List Delta) → AllByRecursion (λ d. is_cancel d.kind ≡ false → is_metadata (to (d.home / 4096)) ≡ true) deltas → list_any (lays_on b) deltas ≡ true
    → is_metadata (to b) ≡ true
laid_on_metadata to b [] all laid = absurd (false≢true laid)
laid_on_metadata to b (d ∷ deltas) all laid = elim (or_cases (lays_on b d) (list_any (lays_on b) deltas) laid) [
  | inl here ↦
      let lies = and_parts (eqb (d.home / 4096) b) (not (is_cancel d.kind)) here in
      ap (λ (c : ℕ). is_metadata (to c)) (sym (eqb-true (d.home / 4096) b lies.0)) ∙ all.0 (not-true (is_cancel d.kind) lies.1)
  | inr after ↦ laid_on_metadata to b deltas all.1 after
]

module _ (g : Geometry) (roles : Roles) (r : Record) (j : Journal) (change : Change) (to : ℕ → Role) (running : List Delta)
    (safe : IsSafe g roles r j) (mr : MovesRoles g roles j change to) (md : MovesDeltas g roles j change to running) where
  abbrev k : Journal
  k = with_change g j change running

  abbrev after : Roles
  after = moved (Changes to) roles

  abbrev run : Tx
  run = running_tx g j

  abbrev more : Tx
  more = running_tx g k

  -- a block that is claimed now
  not_freed : (b : ℕ) → is_claimed (to b) ≡ true → is_among b change.freed ≡ false
  not_freed b claimed = false_from_ne_true (is_among b change.freed) (λ is. false≢true (sym (mr.freed b is).1 ∙ claimed))

  not_cancelled : (b : ℕ) → is_among b change.freed ≡ false → is_cancelled_in change.deltas b ≡ false
  not_cancelled b none = md.cancels b ∙ and_left (is_among b change.freed) (is_metadata (roles Running b)) none

  unclaimed_not_cancelled : (b : ℕ) → is_claimed (roles Running b) ≡ false → is_cancelled_in change.deltas b ≡ false
  unclaimed_not_cancelled b none = md.cancels b ∙ and_right (is_among b change.freed) (is_metadata (roles Running b)) (unclaimed_no_metadata (roles Running b) none)

  kept : (b : ℕ) → is_claimed (roles Running b) ≡ true → is_claimed (to b) ≡ true → to b ≡ roles Running b
  kept b before now = mr.kept b before (not_freed b now)

  -- a block that was claimed, and isn't cancelled though it was metadata, stays
  metadata_stays : (b : ℕ) → is_metadata (roles Running b) ≡ true → is_cancelled_in change.deltas b ≡ false → to b ≡ roles Running b
  metadata_stays b is none =
      mr.kept b (metadata_is_claimed (roles Running b) is)
      (false_from_ne_true (is_among b change.freed) (λ freed. false≢true (sym none ∙ md.cancels b ∙ and_from (is_among b change.freed) (is_metadata (roles Running b)) freed is)))

  -- a block that is given out was gone, and held by no batch
  given_out : (b : ℕ) → is_claimed (roles Running b) ≡ false → is_claimed (to b) ≡ true → IsGone g roles j b × (is_held j b ≡ false)
  given_out b before now =
      let none = not_freed b now in
      let live = (mr.claimed b before now).1 in
      elim (cases_Bool (is_among b change.taken)) [
        | inl is ↦ let out = may_be_given_out g roles r j safe b (mr.taken b is) in (out.0, out.1)
        | inr out ↦ elim (cases_Bool (is_among b change.given_back)) [
          | inl back ↦ absurd (released_no_live (sym (owner_given g j change b none out back) ∙ live))
          | inr same ↦
              let owner : j.owners b ≡ Live = sym (owner_same g j change b none out same) ∙ live in
              (safe.owners.gone b before (ap is_freed_owner owner), safe.owners.in_hand b before owner)
        ]
      ]

  -- a block that isn't claimed now, and not freed
  was_unclaimed : (b : ℕ) → is_claimed (to b) ≡ false → is_among b change.freed ≡ false → is_claimed (roles Running b) ≡ false
  was_unclaimed b now none = false_from_ne_true (is_claimed (roles Running b)) (λ before. false≢true (sym now ∙ ap is_claimed (mr.kept b before none) ∙ before))

  -- it was gone, unless its owner is a transaction
  was_gone : (b : ℕ) → is_claimed (to b) ≡ false → is_freed_owner (owner_after g j change b) ≡ false → IsGone g roles j b
  was_gone b now free =
      let none : is_among b change.freed ≡ false = false_from_ne_true (is_among b change.freed) (λ is. false≢true (sym free ∙ ap is_freed_owner (owner_freed g j change b is))) in
      let before = was_unclaimed b now none in
      elim (cases_Bool (is_among b change.taken)) [
        | inl is ↦ (may_be_given_out g roles r j safe b (mr.taken b is)).0
        | inr out ↦ elim (cases_Bool (is_among b change.given_back)) [
          | inl back ↦ safe.owners.gone b before (ap is_freed_owner (mr.given_back b back).0)
          | inr same ↦ safe.owners.gone b before (ap is_freed_owner (sym (owner_same g j change b none out same)) ∙ free)
        ]
      ]

  -- a block in a hand now is held by no batch
  in_hand_now : (b : ℕ) → is_claimed (to b) ≡ false → owner_after g j change b ≡ Live → is_held j b ≡ false
  in_hand_now b now live =
      let none : is_among b change.freed ≡ false =
      false_from_ne_true (is_among b change.freed) (λ is. live_no_freed (next_header g j).tid (sym live ∙ owner_freed g j change b is)) in
      elim (cases_Bool (is_among b change.taken)) [
        | inl is ↦ (may_be_given_out g roles r j safe b (mr.taken b is)).1
        | inr out ↦ elim (cases_Bool (is_among b change.given_back)) [
          | inl back ↦ absurd (released_no_live (sym (owner_given g j change b none out back) ∙ live))
          | inr same ↦ safe.owners.in_hand b (was_unclaimed b now none) (sym (owner_same g j change b none out same) ∙ live)
        ]
      ]

  -- who owned a block that a transaction frees
  freed_before : (b tid : ℕ) → owner_after g j change b ≡ Freed tid → (Freed (next_header g j).tid ≡ Freed tid) ⊎ (j.owners b ≡ Freed tid)
  freed_before b tid owner = elim (cases_Bool (is_among b change.freed)) [
    | inl is ↦ inl (sym (owner_freed g j change b is) ∙ owner)
    | inr none ↦ elim (cases_Bool (is_among b change.taken)) [
      | inl is ↦ absurd (live_no_freed tid (sym (owner_taken g j change b none is) ∙ owner))
      | inr out ↦ elim (cases_Bool (is_among b change.given_back)) [
        | inl back ↦ absurd (released_no_freed tid (sym (owner_given g j change b none out back) ∙ owner))
        | inr same ↦ inr (sym (owner_same g j change b none out same) ∙ owner)
      ]
    ]
  ]

  -- the change lies on metadata
  laid_by_change : (b : ℕ) → list_any (lays_on b) change.deltas ≡ true → is_metadata (to b) ≡ true
  laid_by_change b laid =
      laid_on_metadata to b change.deltas (recursion_from_All (λ (d : Delta). is_cancel d.kind ≡ false → is_metadata (to (d.home / 4096)) ≡ true) change.deltas md.laid) laid

  laid_still : (b : ℕ) → is_laid_by (txs_of g j Running) b ≡ true → is_cancelled_in change.deltas b ≡ false → is_metadata (to b) ≡ true
  laid_still b laid none = let is = safe.versions.laid Running b laid in ap is_metadata (metadata_stays b is none) ∙ is

  -- the transactions before the running one
  abbrev earlier : List Tx
  earlier = j.committed ++ sealed_txs j

  laid_now : (b : ℕ) → is_laid_by (txs_of g k Running) b ≡ true → is_metadata (to b) ≡ true
  laid_now b laid =
      let one : (t : Tx) → is_laid_by (t ∷ []) b ≡ list_any (lays_on b) t.deltas = λ t. ap (list_any (lays_on b)) (live_one t) in
      elim (laid_parts earlier (more ∷ []) b (sym (ap (λ (l : List Tx). is_laid_by l b) (split j more)) ∙ laid)) [
        | inl before ↦
            let both = or_parts (is_cancelled_in j.running b) (is_cancelled_in change.deltas b)
            (sym (md.merged.cancels b) ∙ (or_parts (is_cancelled_in running b) false before.1).0) in
            laid_still b (ap (λ (l : List Tx). is_laid_by l b) (split j run) ∙ laid_before earlier (run ∷ []) b before.0 (ap (λ (c : Bool). c || false) both.0)) both.1
        | inr last ↦
            let parts = merged_laid g j.running change.deltas running md.merged b (loggable_lie g j.running safe.versions.loggable) (table_lies g change.deltas md.table) (sym (one more) ∙ last) in
            elim parts.1 [
              | inl old ↦ laid_still b (ap (λ (l : List Tx). is_laid_by l b) (split j run) ∙ laid_later earlier (run ∷ []) b (one run ∙ old)) parts.0
              | inr new ↦ laid_by_change b new
            ]
      ]

  covered_now : (b n m : ℕ) → to b ≡ Metadata n → is_metadata (roles Published b) ≡ false → m < n → IsSome (given_by (live_deltas (txs_of g k Running)) (4096 * b + m))
  covered_now b n m role other inside =
      let a : ℕ = 4096 * b + m in
      let size : n ≤ 4096 = mr.sizes b n role in
      let block : b ≡ a / 4096 = omega (arith, inside, size) in
      let by_change : is_cancelled_in change.deltas b ≡ false → given_by (live_deltas (txs_of g k Running)) a ≡ else_by (given_by change.deltas a) (given_by (live_deltas (txs_of g j Running)) a) =
      λ none. changed_gives g roles r j change to running safe md a (ap (is_cancelled_in change.deltas) (sym block) ∙ none) in
      elim (cases_Bool (is_claimed (roles Running b))) [
        | inl before ↦
            let now : is_claimed (to b) ≡ true = ap is_claimed role in
            subst (λ (o : Option ℕ). IsSome o) (sym (by_change (not_cancelled b (not_freed b now))))
            (some_else (given_by change.deltas a) (given_by (live_deltas (txs_of g j Running)) a) (safe.versions.covered Running b n m (sym (kept b before now) ∙ role) other inside))
        | inr before ↦
            subst (λ (o : Option ℕ). IsSome o) (sym (by_change (unclaimed_not_cancelled b before)))
            (some_later (given_by change.deltas a) (given_by (live_deltas (txs_of g j Running)) a) (mr.covered b n m before role inside))
      ]

  cancelled_now : (l : List Tx) (b : ℕ) → (is_claimed (roles Running b) ≡ true → is_cancelled_by (l ++ run ∷ []) b ≡ true → ⊥)
      → (is_claimed (roles Running b) ≡ false → is_claimed (to b) ≡ true → is_cancelled_by (l ++ run ∷ []) b ≡ true → ⊥)
      → is_cancelled_by (l ++ more ∷ []) b ≡ true → is_claimed (to b) ≡ false
  cancelled_now l b was out c =
      false_from_ne_true (is_claimed (to b)) (λ now.
      let before : is_cancelled_by (l ++ run ∷ []) b ≡ true = sym (cancels_same g roles r j change to running safe md l b (not_cancelled b (not_freed b now))) ∙ c in
      elim (cases_Bool (is_claimed (roles Running b))) [
        | inl claimed ↦ was claimed before
        | inr unclaimed ↦ out unclaimed now before
      ])

  gone_now : (b : ℕ) → is_claimed (to b) ≡ false → is_freed_owner (owner_after g j change b) ≡ false → IsGone g after k b
  gone_now b now free =
      let gone = was_gone b now free in
      record { unclaimed = unclaimed_in gone; uncancelled = cancels_same g roles r j change to running safe md (sealed_txs j) b (unclaimed_not_cancelled b (gone.unclaimed Running)) ∙ gone.uncancelled }
    where
      unclaimed_in : IsGone g roles j b → (v : Version) → is_claimed (after v b) ≡ false
      unclaimed_in gone Published = gone.unclaimed Published
      unclaimed_in gone Sealed = gone.unclaimed Sealed
      unclaimed_in gone Running = now

  versions_now : HaveRoles g after k
  versions_now = record {
    loggable = md.merged.loggable;
    places = places_in;
    sizes = sizes_in;
    laid = laid_in;
    covered = covered_in;
    cancelled = cancelled_in;
    sealed = safe.versions.sealed;
    running = λ b. record {
      same = λ before now. elim (cases_Bool (is_claimed (roles Running b))) [
        | inl claimed ↦ kept b claimed now ∙ (safe.versions.running b).same before claimed
        | inr unclaimed ↦ absurd (false≢true (sym ((given_out b unclaimed now).0.unclaimed Sealed) ∙ before))
      ];
    };
    freed = λ b first none.
        false_from_ne_true (is_claimed (to b)) (λ now. false≢true (sym ((given_out b (safe.versions.freed b first none) now).0.unclaimed Published) ∙ first));
  }
    where
      places_in : (v : Version) (b : ℕ) → is_claimed (after v b) ≡ true → (group_start g 0 ≤ b) × (b < blocks_of g)
      places_in Published b = safe.versions.places Published b
      places_in Sealed b = safe.versions.places Sealed b
      places_in Running b = λ now. elim (cases_Bool (is_claimed (roles Running b))) [
        | inl claimed ↦ safe.versions.places Running b claimed
        | inr unclaimed ↦ body_place g b (ring_at_home g roles r j safe).begins.geometry (mr.claimed b unclaimed now).0
      ]

      sizes_in : (v : Version) (b n : ℕ) → after v b ≡ Metadata n → n ≤ 4096
      sizes_in Published b n = safe.versions.sizes Published b n
      sizes_in Sealed b n = safe.versions.sizes Sealed b n
      sizes_in Running b n = mr.sizes b n

      laid_in : (v : Version) (b : ℕ) → is_laid_by (txs_of g k v) b ≡ true → is_metadata (after v b) ≡ true
      laid_in Published b = safe.versions.laid Published b
      laid_in Sealed b = safe.versions.laid Sealed b
      laid_in Running b = laid_now b

      covered_in : (v : Version) (b n m : ℕ) → after v b ≡ Metadata n → is_metadata (roles Published b) ≡ false → m < n → IsSome (given_by (live_deltas (txs_of g k v)) (4096 * b + m))
      covered_in Published b n m = safe.versions.covered Published b n m
      covered_in Sealed b n m = safe.versions.covered Sealed b n m
      covered_in Running b n m = covered_now b n m

      cancelled_in : (v : Version) (b : ℕ) → is_cancelled_by (later_of g k v) b ≡ true → is_claimed (after v b) ≡ false
      cancelled_in Published b = safe.versions.cancelled Published b
      cancelled_in Sealed b = safe.versions.cancelled Sealed b
      cancelled_in Running b = cancelled_now (sealed_txs j) b
          (λ claimed c. false≢true (sym (safe.versions.cancelled Running b c) ∙ claimed))
          (λ unclaimed now c. false≢true (sym (given_out b unclaimed now).0.uncancelled ∙ c))

  batch_now : (batch : Batch) → batch_of j.roll ≡ Some batch → IsBatch g roles j batch → IsBatch g after k batch
  batch_now batch of is = record { some = is.some; committed = is.committed; held = is.held; left = is.left; cancelled = cancelled_in }
    where
      assoc : (t : Tx) → drop batch.count j.committed ++ (sealed_txs j ++ t ∷ []) ≡ (drop batch.count j.committed ++ sealed_txs j) ++ t ∷ []
      assoc t = sym (append_assoc (drop batch.count j.committed) (sealed_txs j) (t ∷ []))

      cancelled_in : (v : Version) (b : ℕ) → is_among b batch.held ≡ true → is_cancelled_by (txs_after g k batch.count v) b ≡ true → is_claimed (after v b) ≡ false
      cancelled_in Published b held = is.cancelled Published b held
      cancelled_in Sealed b held = is.cancelled Sealed b held
      cancelled_in Running b held = λ c.
          cancelled_now (drop batch.count j.committed ++ sealed_txs j) b
          (λ claimed before. false≢true (sym (is.cancelled Running b held (ap (λ (l : List Tx). is_cancelled_by l b) (assoc run) ∙ before)) ∙ claimed))
          (λ unclaimed now before. false≢true (sym (given_out b unclaimed now).1 ∙ ap (λ (o : Option Batch). is_among b (held_by o)) of ∙ held))
          (sym (ap (λ (l : List Tx). is_cancelled_by l b) (assoc more)) ∙ c)

  owners_now : HaveOwners g after k
  owners_now =
      let o = safe.owners in
      record {
        claimed = λ b now. elim (cases_Bool (is_claimed (roles Running b))) [
          | inl claimed ↦
              let none = not_freed b now in
              let live = o.claimed b claimed in
              elim (cases_Bool (is_among b change.taken)) [
                | inl is ↦ owner_taken g j change b none is
                | inr out ↦ elim (cases_Bool (is_among b change.given_back)) [
                  | inl back ↦ absurd (false≢true (sym (mr.given_back b back).1 ∙ claimed))
                  | inr same ↦ owner_same g j change b none out same ∙ live
                ]
              ]
          | inr unclaimed ↦ (mr.claimed b unclaimed now).1
        ];
        gone = gone_now;
        in_hand = in_hand_now;
        freed_last = λ b now is. elim (cases_Bool (is_among b change.freed)) [
          | inl freed ↦ owner_freed g j change b freed
          | inr none ↦
              let running_same : is_cancelled_in running b ≡ is_cancelled_in j.running b =
              md.merged.cancels b ∙ ap (λ (c : Bool). is_cancelled_in j.running b || c) (not_cancelled b none) ∙ or-false (is_cancelled_in j.running b) in
              let owner = o.freed_last b (was_unclaimed b now none) (ap (λ (c : Bool). is_claimed (roles Sealed b) || c) (sym running_same) ∙ is) in
              elim (cases_Bool (is_among b change.taken)) [
                | inl taken ↦ absurd (released_owner j b (Freed (next_header g j).tid) refl (mr.taken b taken) owner)
                | inr out ↦ elim (cases_Bool (is_among b change.given_back)) [
                  | inl back ↦ absurd (live_no_freed (next_header g j).tid (sym (mr.given_back b back).0 ∙ owner))
                  | inr same ↦ owner_same g j change b none out same ∙ owner
                ]
              ]
        ];
        freed_low = λ b tid is. elim (freed_before b tid is) [
          | inl now ↦ let same : (next_header g j).tid ≡ tid = ap freed_by now in omega (arith, same, length-append j.committed (sealed_txs j))
          | inr before ↦ o.freed_low b tid before
        ];
        freed_high = λ b tid is. elim (freed_before b tid is) [
          | inl now ↦ let same : (next_header g j).tid ≡ tid = ap freed_by now in omega (arith, same)
          | inr before ↦ o.freed_high b tid before
        ];
      }

  room_now : HasRoom g k
  room_now = record {
    oldest = safe.room.oldest;
    sealed = safe.room.sealed;
    number = safe.room.number;
    fits = λ some.
        let was : IsOpen j = elim some [
          | inl has ↦ elim (cases_lt j.members 1) [
            | inl none ↦ elim (cases_lt (length j.running) 1) [
              | inl empty ↦
                  let bytes = some_bytes running has in
                  let before = no_bytes j.running (omega (arith, empty)) in
                  let spent = safe.room.unspent (omega (arith, none)) in
                  absurd (omega (arith, bytes, before, spent, md.room))
              | inr some ↦ inl some
            ]
            | inr inside ↦ inr inside
          ]
          | inr inside ↦ inr inside
        ] in
        let fits = safe.room.fits was in
        let fewer = sectors_grow (pending_bytes k + 0) (pending_bytes j + 0) (omega (arith, md.room)) in
        omega (arith, fits, fewer);
    unspent = λ none. let spent = safe.room.unspent none in omega (arith, spent);
  }

  whole_now : (image : Image) → IsSafeImage g roles (present_of r) j image → (v : Version) → is_logged v ≡ true → GivesMetadata (after v) (present_of r) (txs_of g k v) image (txs_of g k v)
  whole_now image is Published logged = is.whole Published refl
  whole_now image is Sealed logged = is.whole Sealed refl
  whole_now image is Running logged = absurd (false≢true logged)

  rest_now : (image : Image) → IsSafeImage g roles (present_of r) j image → (v : Version) → is_logged v ≡ true
      → GivesMetadata (after v) (present_of r) (txs_of g k v) image (txs_after g k (home_count j.roll) v)
  rest_now image is Published logged = is.rest Published refl
  rest_now image is Sealed logged = is.rest Sealed refl
  rest_now image is Running logged = absurd (false≢true logged)

  pub keeps_apply : IsSafe g after (with_calls r []) k
  keeps_apply =
      without_calls g after r k
      (record {
        sectors = safe.sectors;
        each = λ image left. let old = safe.each image left in record { geometry = old.geometry; header = old.header; ring = old.ring; whole = whole_now image old; rest = rest_now image old };
        present = record { header = safe.present.header; sealed = safe.present.sealed; rolled = safe.present.rolled };
        versions = versions_now;
        roll = roll_kept g roles after j k j.roll batch_now safe.roll;
        owners = owners_now;
        room = room_now;
      })
