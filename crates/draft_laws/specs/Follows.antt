-- What a change that is being made does to a volume so far. Blocks that the volume claimed and that are held now are loose:
-- they are still to be freed, and little is said of them.
use Rattle.std.specs.Prelude.{◌≡◌, ◌<◌, ◌≤◌, ℕ, ◌/◌, Bool, true, false, ◌&&◌, List, All}
use Rattle.lufs_base.specs.declared.geometry.Geometry.{Geometry}
use Rattle.volume_model.specs.declared.hand.Hand.{Hand}
use Rattle.volume_model.specs.Sound.{Reading, is_claimed, held_blocks, is_among, metadata_length}
use Rattle.meta_store.specs.declared.change.Change.{Change}
use Rattle.meta_store.specs.Changes.{frees}
use Rattle.meta_store.specs.Suited.{suits}
use Rattle.meta_store.specs.Conditions.{HasBitsOf, is_given, StaysClaimed, ComesClaimed, IsGivenUp}

-- block b was claimed before, and is held now
abbrev pub is_loose : Reading → List Hand → (b : ℕ) → Bool
is_loose before hands b = is_claimed before b && is_among b (held_blocks hands)

-- What a change so far does to what is read of the blocks that are metadata, to the claims, and to the bits of blocks: what
-- `MayFollow` asks, but of the loose blocks.
pub record FollowsSoFar (g : Geometry) (change : Change) (taken loose : ℕ → Bool) (before after : Reading) : Type 0 where
  pub raw_before : All (λ w. metadata_length g before (w.first / 8) ≡ 0) change.raw
  pub raw_after : All (λ w. metadata_length g after (w.first / 8) ≡ 0) change.raw
  pub suited : All (λ d. loose (d.home / 4096) ≡ false → suits g after d ≡ true) change.deltas
  pub loosened : All (λ d. loose (d.home / 4096) ≡ true → suits g before d ≡ true) change.deltas
  pub given : (b place : ℕ) → metadata_length g before b ≤ place → place < metadata_length g after b → is_given change.deltas b place ≡ true
  pub stays : (b : ℕ) → is_claimed before b ≡ true → frees change b ≡ false → loose b ≡ false → StaysClaimed g before after b
  pub grows : (b : ℕ) → is_claimed before b ≡ true → frees change b ≡ false → loose b ≡ false → metadata_length g before b ≤ metadata_length g after b
  pub claimed : (b : ℕ) → is_claimed before b ≡ false → is_claimed after b ≡ true → ComesClaimed g change taken after b
  pub marked : (b : ℕ) → frees change b ≡ true → IsGivenUp g change before after b
  pub bits : HasBitsOf g (λ b. is_among b change.taken) (frees change) before after
