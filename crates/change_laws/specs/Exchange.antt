-- A change of one inode that exchanges what it claims with what is held. No bit changes.
use Rattle.std.specs.Prelude.{◌≡◌, ◌<◌, ◌≤◌, ℕ, true, List, [], ◌∷◌, ◌++◌, map, Option, is_some}
use Rattle.std.specs.List.{list_all}
use Rattle.std.specs.Option.{option_map_or}
use Rattle.lufs_base.specs.declared.geometry.Geometry.{Geometry}
use Rattle.volume_model.specs.declared.hand.Hand.{Hand}
use Rattle.volume_model.specs.Sound.{UsedInode, InodeState, NoRecord, Unused, InUse, Reading, inodes_in, used_of, used_at, claims_in, held_inodes, held_blocks, has_right_numbers}
use Rattle.change_laws.specs.Hands.{HaveTheSame}

-- the blocks that inode i claims, if it is in use
abbrev pub claimed_blocks : ℕ → Option UsedInode → List ℕ
claimed_blocks i used = map (λ claim. claim.block) (option_map_or (claims_in i) used [])

-- inode i alone, if it is in use
abbrev pub used_inodes : ℕ → Option UsedInode → List ℕ
used_inodes i used = option_map_or (λ u. i ∷ []) used []

-- an inode in use, whose numbers of blocks are right, and whose chunks could be read
pub record IsRightInode (g : Geometry) (i : ℕ) (u : UsedInode) : Type 0 where
  pub usable : 2 ≤ i
  pub numbers : has_right_numbers g i u ≡ true
  pub chunks : list_all is_some u.chunks ≡ true

-- what may stand in the place of inode i's record: a free one, or an inode in use
abbrev pub IsRightState : Geometry → ℕ → InodeState → Type 0
IsRightState g i NoRecord = ⊥
IsRightState g i Unused = Unit {0}
IsRightState g i (InUse u) = IsRightInode g i u

-- Inode i gets another state. A block that it claims no more is held after, and one that it claims anew was held before; an
-- inode that is made was held, and one that is freed is held after.
pub record Exchanges (g : Geometry) (r : Reading) (i : ℕ) (state : InodeState) (hands others : List Hand) : Type 0 where
  pub within : i < inodes_in r
  pub right : IsRightState g i state
  pub blocks : HaveTheSame (claimed_blocks i (used_at r i) ++ held_blocks hands) (claimed_blocks i (used_of state) ++ held_blocks others)
  pub inodes : HaveTheSame (used_inodes i (used_at r i) ++ held_inodes hands) (used_inodes i (used_of state) ++ held_inodes others)
