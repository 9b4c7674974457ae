-- What is counted before a call is answered, and what is chosen for it.
use Rattle.std.specs.Prelude.{◌≡◌, ◌<◌, ◌≤◌, ℕ, Bool, true, List, [], ◌∷◌, length, Option, All, AllPairs}
use Rattle.lufs_base.specs.declared.geometry.Geometry.{Geometry}
use Rattle.volume_model.specs.declared.hand.Hand.{Hand}
use Rattle.volume_model.specs.Format.{inodes_of}
use Rattle.volume_model.specs.Sound.{Reading, held_inodes, held_blocks, Tree, free_inodes_of, free_blocks_of}
use Rattle.block_alloc.specs.declared.choice.Counts.{Counts}
use Rattle.cyl_groups.specs.declared.group.Group.{Group}
use Rattle.block_alloc.specs.declared.taken.Taken.{Taken}
use Rattle.block_alloc.specs.declared.taken.Taken.TheVariants.{Got, Later, NoInodes, NoSpace}
use Rattle.block_alloc.specs.Records.{is_clear_inode, may_give}
use Rattle.block_alloc.specs.Taking.{released_blocks}

-- these are the counts of a volume with this reading, of which the hands hold what they hold
pub record AreCounts (g : Geometry) (r : Reading) (tree : Tree) (may : ℕ → Bool) (hands : List Hand) (counts : Counts) : Type 0 where
  pub free_inodes : counts.free_inodes ≡ free_inodes_of g tree
  pub free_blocks : counts.free_blocks ≡ free_blocks_of g tree
  pub released : counts.released ≡ released_blocks g r may hands
  pub inodes_in_hand : counts.inodes_in_hand ≡ length (held_inodes hands)
  pub blocks_in_hand : counts.blocks_in_hand ≡ length (held_blocks hands)

-- All that the hand holds is free by the bits of the records: an inode that a call may make, and body blocks that may be given
-- out now, which rise.
pub record IsChosen (g : Geometry) (records : List (Option Group)) (may : ℕ → Bool) (hand : Hand) : Type 0 where
  pub usable : All (λ i. (2 ≤ i) × (i < inodes_of g)) (held_inodes (hand ∷ []))
  pub inode_clear : All (λ i. is_clear_inode g records i ≡ true) (held_inodes (hand ∷ []))
  pub given : All (λ b. may_give g records may b ≡ true) hand.blocks
  pub rising : AllPairs (λ b c. b < c) hand.blocks

-- this holds of the hand that was got, if one was
abbrev pub IfGot : Taken → (Hand → Type 0) → Type 0
IfGot (Got hand) holds = holds hand
IfGot (Later cause) holds = Unit {0}
IfGot NoInodes holds = Unit {0}
IfGot NoSpace holds = Unit {0}
