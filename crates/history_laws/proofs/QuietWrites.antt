-- The writes of a log and of a roll give nothing to the blocks of files.
use Rattle.std.proofs.Common.{◌≡◌, ◌<◌, ◌≤◌, inl, inr, ℕ, ◌+◌, ◌-◌, ◌*◌, ◌/◌, ◌%◌, nat_le, nat_lt, ◌&&◌, if◌then◌else◌, Bool, true, false, List, ◌∷◌, length, take, drop, slice_index, Some, None, refl, ap, ◌∙◌, sym, subst, arith}
use Rattle.std.proofs.lemmas.Bool.{cases_Bool, false≢true, false_from_ne_true, leb-true, ltb-true, eq-eqb}
use Rattle.std.proofs.lemmas.List.{length-take}
use Rattle.std.specs.Prelude.{◌||◌}
use Rattle.lufs_base.specs.Layout.{IsGeometry, group_start, header_sector, ring_of, ring_place}
use Rattle.lufs_base.specs.declared.geometry.Geometry.{Geometry}
use Rattle.tree_types.specs.declared.history.Entry.{Entry}
use Rattle.volume_model.specs.declared.log.Header.{Header}
use Rattle.volume_model.specs.declared.log.Tx.{Tx}
use Rattle.volume_model.specs.Format.{Image, block, sectors_from}
use Rattle.volume_model.specs.Log.{header_bytes, tx_bytes}
use Rattle.volume_model.specs.Crash.{Record}
use Rattle.volume_model.specs.Sound.{Reading, Tree, is_among}
use Rattle.log_laws.specs.LogOnImage.{IsInOneTurn}
use Rattle.journal_model.specs.Journals.{SealedTx, Batch, Writing, Roll, Journal}
use Rattle.journal_model.specs.Versions.{Version, txs_after, txs_of}
use Rattle.journal_model.specs.LaidBlocks.{is_laid_by, is_cancelled_by}
use Rattle.journal_model.specs.BlockRoles.{FileBytes, Roles, is_metadata, is_claimed}
use Rattle.journal_model.specs.Kept.{IsBatch, IsRoll}
use Rattle.journal_model.specs.Safety.{IsSafe}
use Rattle.journal_laws.proofs.BlockWrites.{header_size}
use Rattle.journal_laws.proofs.KeptSteps.{geometry_of_safe}
use Rattle.journal_laws.proofs.MergedDeltas.{laid_before}
use Rattle.journal_laws.proofs.RollFacts.{parts_of}
use Rattle.history_laws.specs.RawWrites.{given_to, WritesTouched}
use Rattle.history_laws.specs.Published.{AreRolesOf}

both_tests : (c d : Bool) (x y : ℕ) → (if c && d then Some x else None) ≡ Some y → (c ≡ true) × (d ≡ true)
both_tests true true x y is = (refl, refl)
both_tests true false x y is = absurd cc
both_tests false d x y is = absurd cc

-- what a write gives lies in it
pub given_within : (first : ℕ) (bytes : List ℕ) (a value : ℕ) → given_to first bytes a ≡ Some value → (512 * first ≤ a) × (a < 512 * first + length bytes)
given_within first bytes a value is =
    let tests = both_tests (nat_le (512 * first) a) (nat_lt a (512 * first + length bytes)) (slice_index bytes (a - 512 * first)) value is in
    (leb-true (512 * first) a tests.0, ltb-true a (512 * first + length bytes) tests.1)

among_first : (b : ℕ) (left : List ℕ) → is_among b (b ∷ left) ≡ true
among_first b left = ap (λ (t : Bool). t || is_among b left) (eq-eqb b b refl)

-- no block of a file lies in the write
abbrev pub SparesFiles : Roles → (first : ℕ) → (bytes : List ℕ) → Type 0
SparesFiles roles first bytes = (v : Version) (b i value : ℕ) → roles v b ≡ FileBytes → i < 4096 → given_to first bytes (4096 * b + i) ≡ Some value → ⊥

module _ (g : Geometry) (roles : Roles) (r : Record) (j : Journal) (safe : IsSafe g roles r j) where
  -- a batch holds no block of a file
  not_held : (batch : Batch) → IsBatch g roles j batch → (v : Version) (b : ℕ) → roles v b ≡ FileBytes → is_among b batch.held ≡ false
  not_held batch is v b file =
      let rest : List Tx = txs_after g j batch.count v in
      false_from_ne_true (is_among b batch.held) (λ held.
      elim (cases_Bool (is_cancelled_by rest b)) [
        | inl cancelled ↦ false≢true (sym (is.cancelled v b held cancelled) ∙ ap is_claimed file)
        | inr kept ↦
            let laid : is_laid_by (txs_of g j v) b ≡ true =
            ap (λ (l : List Tx). is_laid_by l b) (sym (parts_of g j batch.count v)) ∙ laid_before (take batch.count j.committed) rest b (sym (is.held b) ∙ held) kept in
            false≢true (sym (ap is_metadata file) ∙ safe.versions.laid v b laid)
      ])

  ok : IsGeometry g
  ok = geometry_of_safe g roles r j safe

  in_groups : (v : Version) (b : ℕ) → roles v b ≡ FileBytes → group_start g 0 ≤ b
  in_groups v b file = (safe.versions.places v b (ap is_claimed file)).0

  pub log_spares : (epoch : ℕ) (s : SealedTx) (n : ℕ) → IsInOneTurn g s.tx s.written n
      → SparesFiles roles (ring_place g ((s.tx.first + s.written) % ring_of g)) (sectors_from (tx_bytes s.tx.deltas s.tx.tid epoch) s.written n)
  log_spares epoch s n turn v b i value file inside is =
      let place : ℕ = (s.tx.first + s.written) % ring_of g in
      let bytes : List ℕ = sectors_from (tx_bytes s.tx.deltas s.tx.tid epoch) s.written n in
      let there = given_within (ring_place g place) bytes (4096 * b + i) value is in
      let long : length bytes ≤ 512 * n = omega (arith, length-take (512 * n) (drop (512 * s.written) (tx_bytes s.tx.deltas s.tx.tid epoch))) in
      omega (arith, there.1, long, turn.places, in_groups v b file, ok.log_step, ok.log_low)

  pub header_spares : (h : Header) → SparesFiles roles (header_sector g) (header_bytes h)
  header_spares h v b i value file inside is =
      let there = given_within (header_sector g) (header_bytes h) (4096 * b + i) value is in
      omega (arith, there.1, header_size h, in_groups v b file, ok.log_low)

  pub roll_spares : (batch : Batch) (b : ℕ) (left : List ℕ) (image : Image) → j.roll ≡ Writing batch → batch.left ≡ b ∷ left → SparesFiles roles (8 * b) (block image b)
  roll_spares batch b left image writing next v c i value file inside is =
      let there = given_within (8 * b) (block image b) (4096 * c + i) value is in
      let long : length (block image b) ≤ 4096 = omega (arith, length-take 4096 (drop (512 * (8 * b)) image)) in
      let same : b ≡ c = omega (arith, there.0, there.1, long, inside) in
      let is_batch : IsBatch g roles j batch = subst (λ (roll : Roll). IsRoll g roles j roll) writing safe.roll in
      let held : is_among b batch.held ≡ true = is_batch.left b (ap (is_among b) next ∙ among_first b left) in
      false≢true (sym (not_held batch is_batch v c file) ∙ ap (λ (n : ℕ). is_among n batch.held) (sym same) ∙ held)

-- so nothing is given to a byte that a version names
pub spared_touched : (g : Geometry) (moment : ℕ) (opening : Tree) (entries : List Entry) (r : Record) (k : ℕ) (roles : Roles) (readings : Version → Reading) (first : ℕ) (bytes : List ℕ)
    → SparesFiles roles first bytes → ((v : Version) → AreRolesOf g (roles v) (readings v)) → WritesTouched g moment opening entries r k readings first bytes
spared_touched g moment opening entries r k roles readings first bytes spares are v ino p b value names is =
    absurd (spares v b (p % 4096) value ((are v).files ino (p / 4096) b names) (omega arith) is)
