-- Writes in place in one block: of a hand, or of a file.
use Rattle.std.proofs.Common.{◌≡◌, ◌<◌, ◌⊎◌, inl, inr, ℕ, ◌+◌, ◌*◌, ◌/◌, ◌%◌, false, List, length, Some, sym, ap, ◌∙◌, subst, arith}
use Rattle.lufs_base.specs.declared.geometry.Geometry.{Geometry}
use Rattle.volume_model.specs.Crash.{present_of}
use Rattle.volume_model.specs.Sound.{Tree}
use Rattle.journal_model.specs.Versions.{Running}
use Rattle.journal_model.specs.BlockRoles.{is_claimed}
use Rattle.journal_model.specs.Batches.{is_freed_owner}
use Rattle.history_laws.specs.Named.{named_block, byte_in}
use Rattle.history_laws.specs.RawWrites.{given_to, IsTouchedSince, WritesTouched, LiesInBlock}
use Rattle.history_laws.specs.Volumes.{Volume, readings_of, KeepsHistory}
use Rattle.history_laws.proofs.AppliedEntries.{leaves}
use Rattle.history_laws.proofs.QuietWrites.{given_within}

module _ (g : Geometry) (moment : ℕ) (opening : Tree) (first : ℕ) (v : Volume) (keeps : KeepsHistory g moment opening first v) (start : ℕ) (bytes : List ℕ) (b : ℕ)
    (within : LiesInBlock start bytes b) where
  -- what the write gives is in the block
  its_block : (c i value : ℕ) → i < 4096 → given_to start bytes (4096 * c + i) ≡ Some value → c ≡ b
  its_block c i value inside is = let there = given_within start bytes (4096 * c + i) value is in omega (arith, there.0, there.1, within.at, within.fits, inside)

  pub hand_writes : is_claimed (v.roles Running b) ≡ false → is_freed_owner (v.j.owners b) ≡ false
      → WritesTouched g moment opening v.h.entries v.r (v.held Running) (readings_of g v) start bytes
  hand_writes unclaimed owner w ino p c value names is =
      let here : c ≡ b = its_block c (p % 4096) value (omega arith) is in
      let gone = keeps.safe.owners.gone b unclaimed owner in
      absurd (leaves g moment opening first v keeps w b (gone.unclaimed w) ino (p / 4096) (names ∙ ap (λ (n : ℕ). Some n) here))

  pub file_writes : (ino index : ℕ) → named_block (readings_of g v Running) ino index ≡ Some b
      → ((q value : ℕ) → q < 4096 → given_to start bytes (4096 * b + q) ≡ Some value
      → (value ≡ byte_in (present_of v.r) b (4096 * index + q)) ⊎ IsTouchedSince g moment opening v.h.entries (v.held Running) (length v.r.calls) ino (4096 * index + q))
      → WritesTouched g moment opening v.h.entries v.r (v.held Running) (readings_of g v) start bytes
  file_writes ino index named each w other p c value names is =
      let here : c ≡ b = its_block c (p % 4096) value (omega arith) is in
      let place = keeps.bytes.places w other (p / 4096) ino index b (names ∙ ap (λ (n : ℕ). Some n) here) named in
      let at : 4096 * index + p % 4096 ≡ p = omega (arith, place.1) in
      let given : given_to start bytes (4096 * b + p % 4096) ≡ Some value = sym (ap (λ (n : ℕ). given_to start bytes (4096 * n + p % 4096)) here) ∙ is in
      elim (each (p % 4096) value (omega arith) given) [
        | inl same ↦ inl (same ∙ ap (byte_in (present_of v.r) b) at ∙ ap (λ (n : ℕ). byte_in (present_of v.r) n p) (sym here))
        | inr touched ↦
            inr (subst (λ (i : ℕ). IsTouchedSince g moment opening v.h.entries (v.held Running) (length v.r.calls) i p) (sym place.0)
            (subst (λ (q : ℕ). IsTouchedSince g moment opening v.h.entries (v.held Running) (length v.r.calls) ino q) at touched))
      ]
