-- Which kinds of deltas may lie on a block, by what the block is in a reading.
use Rattle.std.specs.Prelude.{ℕ, ◌/◌, ◌==◌, nat_lt, Bool, true, false, ◌&&◌, ◌||◌}
use Rattle.std.specs.List.{list_any}
use Rattle.std.specs.Option.{option_map_or}
use Rattle.lufs_base.specs.Layout.{blocks_of, region_of}
use Rattle.lufs_base.specs.declared.geometry.Geometry.{Geometry}
use Rattle.lufs_base.specs.declared.delta.Delta.{Delta}
use Rattle.lufs_base.specs.declared.delta.DeltaKind.{DeltaKind}
use Rattle.lufs_base.specs.declared.delta.DeltaKind.TheVariants.{Group, Inode, Chunk, Pointers, Zero, LinkText, Cancel}
use Rattle.volume_model.specs.Format.{is_directory, is_link}
use Rattle.volume_model.specs.Log.{is_home_of, is_cancel}
use Rattle.volume_model.specs.Sound.{UsedInode, Reading, used_at, Part, AtIndex, AtPointer, Claim, claims_of}

-- A delta of this kind may lie on a block that the inode has as this part: pointers and zero blocks on a pointer block,
-- chunks and zero blocks on a block of a directory, and a link's text on the block of a link.
abbrev pub suits_part : DeltaKind → UsedInode → Part → Bool
suits_part Group u part = false
suits_part Inode u part = false
suits_part Chunk u (AtIndex index) = is_directory u.inode.mode
suits_part Chunk u (AtPointer name) = false
suits_part Pointers u (AtIndex index) = false
suits_part Pointers u (AtPointer name) = true
suits_part Zero u (AtIndex index) = is_directory u.inode.mode
suits_part Zero u (AtPointer name) = true
suits_part LinkText u (AtIndex index) = is_link u.inode.mode
suits_part LinkText u (AtPointer name) = false
suits_part Cancel u part = false

-- on a block that is claimed so
abbrev pub suits_claim : Reading → DeltaKind → Claim → Bool
suits_claim r kind claim = option_map_or (λ u. suits_part kind u claim.part) (used_at r claim.inode) false

-- on a block that one of the inodes claims as such a part
abbrev pub suits_claims : Reading → DeltaKind → (b : ℕ) → Bool
suits_claims r kind b = list_any (λ claim. claim.block == b && suits_claim r kind claim) (claims_of r)

-- on block b: records of groups lie on the first blocks of groups, and those of inodes on the blocks of inode records
abbrev pub suits_block : Geometry → Reading → DeltaKind → (b : ℕ) → Bool
suits_block g r Group b = nat_lt b (blocks_of g) && is_home_of Group (region_of g b)
suits_block g r Inode b = nat_lt b (blocks_of g) && is_home_of Inode (region_of g b)
suits_block g r Chunk b = suits_claims r Chunk b
suits_block g r Pointers b = suits_claims r Pointers b
suits_block g r Zero b = suits_claims r Zero b
suits_block g r LinkText b = suits_claims r LinkText b
suits_block g r Cancel b = false

-- The delta may lie on its block. A cancel may lie on any.
abbrev pub suits : Geometry → Reading → Delta → Bool
suits g r d = is_cancel d.kind || suits_block g r d.kind (d.home / 4096)
