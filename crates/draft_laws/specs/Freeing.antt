-- Blocks that a call gives up: which they are, and what the change is with them freed.
use Rattle.std.specs.Prelude.{◌≡◌, ℕ, Bool, true, nat_lt, List, [], ◌∷◌, map, All}
use Rattle.lufs_base.specs.declared.geometry.Geometry.{Geometry}
use Rattle.volume_model.specs.declared.hand.Hand.{Hand}
use Rattle.volume_model.specs.Format.{Image, block}
use Rattle.volume_model.specs.Sound.{reading_of, used_at, is_claimed, metadata_length, tree_of}
use Rattle.meta_store.specs.declared.change.Change.{Change}
use Rattle.meta_store.specs.declared.change.Freed.{Freed}
use Rattle.meta_draft.specs.Drafted.{drafted_blocks, with_freed}
use Rattle.draft_laws.specs.Drafts.{IsDraft}

-- the change with these blocks freed, one after the other
abbrev pub with_all_freed : Change → List Freed → Change
with_all_freed change [] = change
with_all_freed change (f ∷ more) = with_all_freed (with_freed change f) more

-- These are the blocks of the hand, all claimed before, each with whether it held metadata then.
pub record GivesUp (g : Geometry) (base : Image) (hand : Hand) (freed : List Freed) : Type 0 where
  pub blocks : map (λ f. f.block.0) freed ≡ hand.blocks
  pub claimed : All (λ b. is_claimed (reading_of g (block base)) b ≡ true) hand.blocks
  pub metadata : All (λ f. f.meta ≡ nat_lt 0 (metadata_length g (reading_of g (block base)) f.block.0)) freed

-- From one draft to the next the hands become others, and the tree and all inodes are what they were.
pub record KeepsTree (g : Geometry) (base : Image) (taken : ℕ → Bool) (old new : Change) (after : List Hand) : Type 0 where
  pub draft : IsDraft g base taken new after
  pub tree : tree_of g (drafted_blocks new base) ≡ tree_of g (drafted_blocks old base)
  pub used : (k : ℕ) → used_at (reading_of g (drafted_blocks new base)) k ≡ used_at (reading_of g (drafted_blocks old base)) k
