-- Sectors of the ring that no mount lists: those of earlier epochs, and of transactions that were trimmed.
use Rattle.std.specs.Prelude.{◌≡◌, ◌<◌, ◌≤◌, ℕ, ◌+◌, ◌%◌, List}
use Rattle.lufs_base.specs.Layout.{ring_of}
use Rattle.lufs_base.specs.declared.geometry.Geometry.{Geometry}
use Rattle.volume_model.specs.declared.log.Header.{Header}
use Rattle.volume_model.specs.Log.{trailer_of}

-- the sector is of another epoch, or of a transaction before this one
pub record IsStale (epoch tid : ℕ) (s : List ℕ) : Type 0 where
  pub older : (trailer_of s).ident ≡ epoch → (trailer_of s).tid < tid

-- the ring's sector m after the head is stale, if the ring has so many
abbrev pub IsStaleAt : Geometry → Header → (ℕ → List ℕ) → ℕ → Type 0
IsStaleAt g h at_place m = m < ring_of g → IsStale h.epoch h.tid (at_place ((h.head + m) % ring_of g))

-- no sector of the ring has an ident above the epoch
abbrev pub HasNoIdentAbove : Geometry → (epoch : ℕ) → (ℕ → List ℕ) → Type 0
HasNoIdentAbove g epoch at_place = (place : ℕ) → place < ring_of g → (trailer_of (at_place place)).ident ≤ epoch
