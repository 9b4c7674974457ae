-- What a check keeps of the inodes as it reads them.
use Rattle.std.specs.Prelude.{◌≡◌, ◌<◌, ◌≤◌, ℕ, ◌*◌, ◌==◌, Bool, false, not, ◌&&◌, if◌then◌else◌, List, [], ◌∷◌, length, map, slice_index, Option, Some, None, option_map}
use Rattle.std.specs.List.{flat_map, range_with_len}
use Rattle.std.specs.Option.{option_flatten, option_map_or}
use Rattle.lufs_base.specs.Layout.{blocks_of}
use Rattle.lufs_base.specs.declared.geometry.Geometry.{Geometry}
use Rattle.volume_model.specs.declared.inode.Dinode.{Dinode}
use Rattle.volume_model.specs.Format.{Blocks, is_directory}
use Rattle.volume_model.specs.Sound.{Reading, reading_of, inode_at, used_at, claims_at, has_right_fields}
use Rattle.fsck_core.specs.declared.claims.Claims.{Claims}
use Rattle.fsck_core.specs.declared.inodes.Brief.{Brief}
use Rattle.fsck_core.specs.declared.inodes.Unsettled.{Unsettled}
use Rattle.fsck_core.specs.Claimed.{used_with, HasClaimed}
use Rattle.fsck_core.specs.Tables.{AreInodes}

-- what is kept of each record
abbrev pub brief_of : Option Dinode → Option Brief
brief_of inode = option_map (λ d. record { mode = d.mode; links = d.links }) inode

-- This is kept of the records of the first inodes.
pub record AreBriefs (g : Geometry) (blocks : Blocks) (briefs : List (Option Brief)) : Type 0 where
  pub inodes : List (Option Dinode)
  pub records : AreInodes g blocks inodes
  pub are : briefs ≡ map brief_of inodes

-- The record of an inode in use says all that a check asks of it but its links: it is no directory, it has no pointer
-- block, and its fields are right.
abbrev pub is_settled : Geometry → Dinode → Bool
is_settled g d = not (is_directory d.mode) && (slice_index d.indirect 0 == 0 && has_right_fields g 0 (used_with d d.direct []))

-- inode i, if it is in use and isn't settled
abbrev pub unsettled_of : Geometry → ℕ → Option Dinode → List Unsettled
unsettled_of g i None = []
unsettled_of g i (Some d) = if is_settled g d then [] else (record { ino = i; inode = d } ∷ [])

-- those among so many inodes, from this one on
abbrev pub unsettled_from : Geometry → Blocks → (first count : ℕ) → List Unsettled
unsettled_from g blocks first count = flat_map (λ i. unsettled_of g i (option_flatten (inode_at g blocks i))) (range_with_len first count)

-- inode i is in use and settled
abbrev pub settled_in : Geometry → Reading → ℕ → Bool
settled_in g r i = option_map_or (λ u. is_settled g u.inode) (used_at r i) false

-- the blocks that inode i claims, each as often as it does
abbrev pub blocks_at : Reading → ℕ → List ℕ
blocks_at r i = map (λ claim. claim.block) (claims_at r i)

-- those of the first n inodes that are settled, and those of the others
abbrev pub settled_blocks : Geometry → Reading → ℕ → List ℕ
settled_blocks g r n = flat_map (λ i. if settled_in g r i then blocks_at r i else []) (range_with_len 0 n)

abbrev pub other_blocks : Geometry → Reading → ℕ → List ℕ
other_blocks g r n = flat_map (λ i. if settled_in g r i then [] else blocks_at r i) (range_with_len 0 n)

-- This is kept of the first n inodes: of each what its record says, those that aren't settled, and the blocks of those
-- that are.
pub record AreKept (g : Geometry) (blocks : Blocks) (n : ℕ) (briefs : List (Option Brief)) (unsettled : List Unsettled) (c : Claims) : Type 0 where
  pub briefs_are : AreBriefs g blocks briefs
  pub unsettled_are : unsettled ≡ unsettled_from g blocks 0 n
  pub claimed : HasClaimed (blocks_of g) (settled_blocks g (reading_of g blocks) n) c

-- There is so much of it, whatever the blocks hold.
pub record HasKept (g : Geometry) (n : ℕ) (briefs : List (Option Brief)) (unsettled : List Unsettled) (c : Claims) : Type 0 where
  pub briefs_size : length briefs ≡ n
  pub unsettled_most : length unsettled ≤ n
  pub bits : blocks_of g < 8 * length c.bits.items
  pub count : c.count ≤ 13 * n
