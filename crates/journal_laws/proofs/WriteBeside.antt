-- A write beside the metadata and the blocks that a batch holds: replays give the same there, whatever a crash leaves of it.
use Rattle.std.proofs.Common.{◌≡◌, ◌<◌, ◌≤◌, ◌⊎◌, ℕ, ◌+◌, ◌*◌, ◌/◌, ◌%◌, true, List, length, take, slice_index, Option, Some, None, IfSome, refl, sym, ap, ◌∙◌, arith}
use Rattle.lufs_base.specs.declared.geometry.Geometry.{Geometry}
use Rattle.volume_model.specs.declared.log.Tx.{Tx}
use Rattle.volume_model.specs.Format.{Image, overwritten}
use Rattle.volume_model.specs.Crash.{Record, IsPartlyWritten, present_of}
use Rattle.volume_model.specs.Sound.{is_among}
use Rattle.journal_model.specs.Journals.{Batch, Journal}
use Rattle.journal_model.specs.Versions.{Version}
use Rattle.journal_model.specs.LaidBlocks.{replayed_byte}
use Rattle.journal_model.specs.BlockRoles.{Metadata, Roles}
use Rattle.journal_model.specs.Batches.{batch_of, held_by, is_held}
use Rattle.journal_model.specs.SafeImages.{GivesMetadata}
use Rattle.journal_model.specs.Safety.{IsRolledSoFar, IsSafe}
use Rattle.journal_laws.proofs.Outcomes.{byte_of_same_sector, kept_beside, done_is_partly, size_of_present}
use Rattle.journal_laws.proofs.Replays.{same_replayed}

-- the write doesn't reach the byte's sector
abbrev pub IsBeside : (first : ℕ) → List ℕ → (address : ℕ) → Type 0
IsBeside first bytes address = (address / 512 < first) ⊎ (512 * first + length bytes ≤ 512 * (address / 512))

-- P of a value that is there gives Q of it
pub if_some_also : {X : Type 0} {P Q : X → Type 0} (o : Option X) → ((x : X) → o ≡ Some x → P x → Q x) → IfSome o P → IfSome o Q
if_some_also None also is = is
if_some_also (Some x) also is = also x refl is

-- The write is of whole sectors inside the image, and beside what counts.
pub record LiesBeside (roles : Roles) (r : Record) (j : Journal) (first : ℕ) (bytes : List ℕ) : Type 0 where
  pub whole : length bytes % 512 ≡ 0
  pub inside : 512 * first + length bytes ≤ length r.opening
  pub metadata : (v : Version) (b n i : ℕ) → roles v b ≡ Metadata n → i < n → IsBeside first bytes (4096 * b + i)
  pub held : (b i : ℕ) → is_held j b ≡ true → i < 4096 → IsBeside first bytes (4096 * b + i)

module _ (g : Geometry) (roles : Roles) (r : Record) (j : Journal) (first : ℕ) (bytes : List ℕ) (safe : IsSafe g roles r j) (lies : LiesBeside roles r j first bytes) where
  abbrev home : Image
  home = present_of r

  abbrev next : Image
  next = overwritten home first bytes

  long : length home ≡ length r.opening
  long = size_of_present r safe.sectors

  pub next_partly : IsPartlyWritten first bytes home next
  next_partly = done_is_partly home first bytes (omega (arith, lies.inside, long))

  byte_beside : (old new : Image) (address : ℕ) → length old ≡ length r.opening → IsPartlyWritten first bytes old new → IsBeside first bytes address → slice_index new address ≡ slice_index old address
  byte_beside old new a size partly beside =
      byte_of_same_sector new old a (a / 512) refl (kept_beside first bytes old new (a / 512) lies.whole (omega (arith, lies.inside, size)) partly beside)

  -- a replay that gave a version's metadata gives it still
  pub gives_beside : (v : Version) (all txs : List Tx) (old new : Image) → length old ≡ length r.opening → IsPartlyWritten first bytes old new
      → GivesMetadata (roles v) home all old txs → GivesMetadata (roles v) next all new txs
  gives_beside v all txs old new size partly gives =
      record {
        each = λ b n i role inside.
            let a : ℕ = 4096 * b + i in
            let beside = lies.metadata v b n i role inside in
            same_replayed new old txs a (byte_beside old new a size partly beside) ∙ gives.each b n i role inside
            ∙ sym (same_replayed next home all a (byte_beside home next a long next_partly beside));
      }

  -- what stands there gives the same metadata
  pub same_beside : (v : Version) (txs : List Tx) (b n i : ℕ) → roles v b ≡ Metadata n → i < n → replayed_byte next txs (4096 * b + i) ≡ replayed_byte home txs (4096 * b + i)
  same_beside v txs b n i role inside = same_replayed next home txs (4096 * b + i) (byte_beside home next (4096 * b + i) long next_partly (lies.metadata v b n i role inside))

  -- the blocks of a batch stand as they did
  pub rolled_beside : IfSome (batch_of j.roll) (IsRolledSoFar home j) → IfSome (batch_of j.roll) (IsRolledSoFar next j)
  rolled_beside rolled =
      if_some_also {P = IsRolledSoFar home j} {Q = IsRolledSoFar next j} (batch_of j.roll)
      (λ batch is so_far b i held left inside.
      let a : ℕ = 4096 * b + i in
      let same = byte_beside home next a long next_partly (lies.held b i (ap (λ (o : Option Batch). is_among b (held_by o)) is ∙ held) inside) in
      same ∙ so_far b i held left inside ∙ sym (same_replayed next home (take batch.count j.committed) a same)) rolled
