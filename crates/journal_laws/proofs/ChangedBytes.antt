-- What the running version gives once a change is laid over it.
use Rattle.std.proofs.Common.{◌≡◌, ℕ, ◌-◌, ◌/◌, Bool, false, ◌||◌, cond, List, [], ◌∷◌, ◌++◌, slice_index, Option, Some, None, refl, sym, ap, ◌∙◌, append_assoc}
use Rattle.std.specs.Option.{unwrap_or}
use Rattle.std.proofs.Math.Bool.{or-false}
use Rattle.lufs_base.specs.declared.geometry.Geometry.{Geometry}
use Rattle.lufs_base.specs.declared.delta.Delta.{Delta}
use Rattle.volume_model.specs.declared.log.Tx.{Tx}
use Rattle.volume_model.specs.Format.{Image}
use Rattle.volume_model.specs.Log.{delta_bytes, live_deltas}
use Rattle.volume_model.specs.Crash.{Record}
use Rattle.journal_model.specs.Journals.{Journal}
use Rattle.journal_model.specs.Versions.{Sealed, Running, sealed_txs, running_tx, txs_of}
use Rattle.journal_model.specs.LaidBlocks.{given_by, replayed_byte, is_cancelled_in, is_cancelled_by}
use Rattle.journal_model.specs.BlockRoles.{Role, Roles}
use Rattle.journal_model.specs.Safety.{IsSafe}
use Rattle.journal_model.specs.Changes.{Change, owner_after, MovesDeltas}
use Rattle.journal_laws.proofs.Replays.{LieInBlocks, else_by, given_by_parts, cancelled-append}
use Rattle.journal_laws.proofs.RollFacts.{version_loggable, all_lie}
use Rattle.journal_laws.proofs.MergedDeltas.{live_one, merged_gives}

-- the changed journal
abbrev pub with_change : Geometry → Journal → Change → List Delta → Journal
with_change g j change running =
    record j { running = running; owners = owner_after g j change; unspent = j.unspent - (delta_bytes running - delta_bytes j.running) }

-- the transactions before the last one of the running version
pub split : (j : Journal) (t : Tx) → j.committed ++ (sealed_txs j ++ t ∷ []) ≡ (j.committed ++ sealed_txs j) ++ t ∷ []
split j t = sym (append_assoc j.committed (sealed_txs j) (t ∷ []))

-- what later deltas give for a byte, or else what stands there
unwrap_else : (later before : Option ℕ) (x : ℕ) → unwrap_or (else_by later before) x ≡ unwrap_or later (unwrap_or before x)
unwrap_else None before x = refl
unwrap_else (Some byte) before x = refl

module _ (g : Geometry) (roles : Roles) (r : Record) (j : Journal) (change : Change) (to : ℕ → Role) (running : List Delta) (safe : IsSafe g roles r j) (md : MovesDeltas g roles j change to running) where
  abbrev k : Journal
  k = with_change g j change running

  abbrev run : Tx
  run = running_tx g j

  abbrev more : Tx
  more = running_tx g k

  -- the running transaction cancels what it did, where the change cancels nothing
  pub cancels_same : (l : List Tx) (b : ℕ) → is_cancelled_in change.deltas b ≡ false → is_cancelled_by (l ++ more ∷ []) b ≡ is_cancelled_by (l ++ run ∷ []) b
  cancels_same l b none =
      let one : is_cancelled_in running b ≡ is_cancelled_in j.running b =
      md.merged.cancels b ∙ ap (λ (c : Bool). is_cancelled_in j.running b || c) none ∙ or-false (is_cancelled_in j.running b) in
      cancelled-append l (more ∷ []) b ∙ ap (λ (c : Bool). is_cancelled_by l b || (c || false)) one ∙ sym (cancelled-append l (run ∷ []) b)

  abbrev earlier : List Tx
  earlier = j.committed ++ sealed_txs j

  earlier_lie : LieInBlocks earlier
  earlier_lie = all_lie g earlier (version_loggable g roles r j safe Sealed)

  -- what the running version gives now: what the change gives, or else what it gave
  pub changed_gives : (address : ℕ) → is_cancelled_in change.deltas (address / 4096) ≡ false
      → given_by (live_deltas (txs_of g k Running)) address ≡ else_by (given_by change.deltas address) (given_by (live_deltas (txs_of g j Running)) address)
  changed_gives a none =
      let c : Bool = is_cancelled_by (run ∷ []) (a / 4096) in
      let alone : (t : Tx) → given_by (live_deltas (t ∷ [])) a ≡ given_by t.deltas a = λ t. ap (λ (l : List Delta). given_by l a) (live_one t) in
      let rest : Option ℕ = cond c None (given_by (live_deltas earlier) a) in
      ap (λ (l : List Tx). given_by (live_deltas l) a) (split j more)
      ∙ given_by_parts earlier (more ∷ []) a c (cancels_same [] (a / 4096) none) earlier_lie
      ∙ ap (λ (o : Option ℕ). else_by o rest) (alone more ∙ merged_gives g j.running change.deltas running md.merged a none)
      ∙ else_twice (given_by change.deltas a) (given_by j.running a) rest
      ∙ ap (else_by (given_by change.deltas a)) (sym (ap (λ (l : List Tx). given_by (live_deltas l) a) (split j run) ∙ given_by_parts earlier (run ∷ []) a c refl earlier_lie
      ∙ ap (λ (o : Option ℕ). else_by o rest) (alone run)))
    where
      else_twice : (x y z : Option ℕ) → else_by (else_by x y) z ≡ else_by x (else_by y z)
      else_twice None y z = refl
      else_twice (Some byte) y z = refl

  pub changed_bytes : (image : Image) (address : ℕ) → is_cancelled_in change.deltas (address / 4096) ≡ false
      → replayed_byte image (txs_of g k Running) address ≡ unwrap_or (given_by change.deltas address) (replayed_byte image (txs_of g j Running) address)
  changed_bytes image a none =
      ap (λ (o : Option ℕ). unwrap_or o (slice_index image a)) (changed_gives a none)
      ∙ unwrap_else (given_by change.deltas a) (given_by (live_deltas (txs_of g j Running)) a) (slice_index image a)
