-- The steps of a journal: what each does to the disk and to the journal, and which versions it moves.
use Rattle.std.specs.Prelude.{◌≡◌, ◌<◌, ◌≤◌, ℕ, ◌+◌, ◌-◌, ◌*◌, ◌/◌, ◌%◌, ◌^◌, ◌==◌, true, false, if◌then◌else◌, List, [], ◌∷◌, ◌++◌, length, take, drop, Some, None}
use Rattle.lufs_base.specs.Layout.{ring_of, header_sector}
use Rattle.lufs_base.specs.declared.geometry.Geometry.{Geometry}
use Rattle.lufs_base.specs.declared.delta.Delta.{Delta}
use Rattle.volume_model.specs.declared.device_call.DeviceCall.{DeviceCall}
use Rattle.volume_model.specs.declared.device_call.DeviceCall.TheVariants.{Write, Flush}
use Rattle.volume_model.specs.Format.{Image, block, is_body}
use Rattle.volume_model.specs.Log.{delta_bytes, tx_sectors, header_bytes, replayed}
use Rattle.volume_model.specs.Sound.{is_among}
use Rattle.log_laws.specs.LogOnImage.{tx_write, IsInOneTurn}
use Rattle.journal_model.specs.Journals.{SealedTx, Batch, Idle, Writing, Home, Trimmed, Owner, Live, Released, Freed, Journal}
use Rattle.journal_model.specs.Versions.{Version, header_after, next_header, running_tx}
use Rattle.journal_model.specs.BlockRoles.{Role, Roles, Move, Stays, Seals, Publishes, Changes, is_metadata}
use Rattle.journal_model.specs.LaidBlocks.{is_laid_by}
use Rattle.journal_model.specs.Batches.{is_held}
use Rattle.journal_model.specs.Room.{used_sectors, HasSpaceFor}
use Rattle.journal_model.specs.Changes.{Change, owner_after, MovesRoles, MovesDeltas}

-- The write is of whole sectors in a body block that no version has metadata in and no batch holds.
pub record IsRawWrite (g : Geometry) (roles : Roles) (j : Journal) (first : ℕ) (bytes : List ℕ) : Type 0 where
  pub body : is_body g (first / 8) ≡ true
  pub whole : length bytes % 512 ≡ 0
  pub inside : 512 * (first % 8) + length bytes ≤ 4096
  pub place : (v : Version) → is_metadata (roles v (first / 8)) ≡ false
  pub free : is_held j (first / 8) ≡ false

-- the owner once transaction tid is committed
abbrev pub published_owner : (tid : ℕ) → Owner → Owner
published_owner tid Live = Live
published_owner tid Released = Released
published_owner tid (Freed by) = if by == tid then Released else Freed by

-- In the journal j over what stands at home, a step moves versions, makes calls of the disk, and leaves a journal.
pub data Step (g : Geometry) (roles : Roles) (home : Image) (j : Journal) : Move → List DeviceCall → Journal → Type 0 where
  -- a call comes in, and goes out with what is left of its need
  Admit : (need : ℕ) → HasSpaceFor g j need → Step g roles home j Stays [] (record j { members = j.members + 1; unspent = j.unspent + need })
  Leave : (members unspent left : ℕ) → j.members ≡ members + 1 → j.unspent ≡ unspent + left → (members ≡ 0 → unspent ≡ 0)
      → Step g roles home j Stays [] (record j { members = members; unspent = unspent })
  -- deltas are laid over the running ones, and blocks are taken, freed and given back
  Apply : (change : Change) (to : ℕ → Role) (running : List Delta) → MovesRoles g roles j change to → MovesDeltas g roles j change to running
      → Step g roles home j (Changes to) [] (record j { running = running; owners = owner_after g j change; unspent = j.unspent - (delta_bytes running - delta_bytes j.running) })
  -- bytes of files, or of a block in a hand
  RawWrite : (first : ℕ) (bytes : List ℕ) → IsRawWrite g roles j first bytes → Step g roles home j Stays (Write first bytes ∷ []) j
  -- a commit
  Seal : j.sealed ≡ None → j.members ≡ 0 → used_sectors j + tx_sectors j.running ≤ ring_of g → (next_header g j).tid + 1 < 2 ^ 32
      → Step g roles home j Seals [] (record j { sealed = Some (record { tx = running_tx g j; written = 0 }); running = [] })
  LogWrite : (s : SealedTx) (n : ℕ) → j.sealed ≡ Some s → IsInOneTurn g s.tx s.written n
      → Step g roles home j Stays (tx_write g j.oldest.epoch s.tx s.written n ∷ []) (record j { sealed = Some (record s { written = s.written + n }) })
  Publish : (s : SealedTx) → j.sealed ≡ Some s → s.written ≡ s.tx.sectors
      → Step g roles home j Publishes (Flush ∷ [])
      (record j { committed = j.committed ++ s.tx ∷ []; sealed = None; owners = λ b. published_owner s.tx.tid (j.owners b) })
  -- a roll
  Pick : (held : List ℕ) → j.roll ≡ Idle → 1 ≤ length j.committed → ((b : ℕ) → is_among b held ≡ is_laid_by j.committed b)
      → Step g roles home j Stays [] (record j { roll = Writing (record { count = length j.committed; held = held; left = held }) })
  RollWrite : (batch : Batch) (b : ℕ) (left : List ℕ) → j.roll ≡ Writing batch → batch.left ≡ b ∷ left
      → Step g roles home j Stays (Write (8 * b) (block (replayed home (take batch.count j.committed)) b) ∷ []) (record j { roll = Writing (record batch { left = left }) })
  RollFlush : (batch : Batch) → j.roll ≡ Writing batch → batch.left ≡ [] → Step g roles home j Stays (Flush ∷ []) (record j { roll = Home batch })
  Trim : (batch : Batch) → j.roll ≡ Home batch
      → Step g roles home j Stays (Write (header_sector g) (header_bytes (header_after g j batch.count)) ∷ []) (record j { roll = Trimmed batch })
  TrimFlush : (batch : Batch) → j.roll ≡ Trimmed batch
      → Step g roles home j Stays (Flush ∷ []) (record j { committed = drop batch.count j.committed; oldest = header_after g j batch.count; roll = Idle })
