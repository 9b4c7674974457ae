-- Which blocks the inodes of a volume claim, and as what.
use Rattle.std.specs.Prelude.{◌≡◌, ◌≤◌, ℕ, ◌+◌, ◌==◌, Bool, true, not, All, List, [], ◌∷◌, ◌++◌, map, slice_index}
use Rattle.std.specs.List.{count_by, filter, flat_map, list_any, range_with_len}
use Rattle.std.specs.Option.{option_map_or}
use Rattle.lufs_base.specs.declared.geometry.Geometry.{Geometry}
use Rattle.volume_model.specs.Format.{is_body}
use Rattle.volume_model.specs.Sound.Readings.{PointerName, NamedPointer, UsedInode, Reading, inodes_in, used_at}

-- as what of an inode a block is claimed
pub data Part : Type 0 where
  AtIndex : ℕ → Part
  AtPointer : PointerName → Part

-- an inode claims a block, as this part of it
pub record Claim : Type 0 where
  pub block : ℕ
  pub inode : ℕ
  pub part : Part

-- the claim of a number that inode i has at this index
abbrev pub index_claim : ℕ → UsedInode → ℕ → Claim
index_claim i u index = record { block = slice_index u.numbers index; inode = i; part = AtIndex index }

-- the claims of these numbers, which inode i has from an index on
abbrev pub index_claims : (i index : ℕ) → List ℕ → List Claim
index_claims i index [] = []
index_claims i index (number ∷ numbers) = record { block = number; inode = i; part = AtIndex index } ∷ index_claims i (index + 1) numbers

abbrev pub pointer_claim : ℕ → NamedPointer → Claim
pointer_claim i p = record { block = p.block; inode = i; part = AtPointer p.name }

-- what inode i claims: its pointer blocks, and the block at each index. The number 0 claims nothing.
abbrev pub claims_in : ℕ → UsedInode → List Claim
claims_in i u = filter (λ claim. not (claim.block == 0)) (map (pointer_claim i) u.pointers ++ index_claims i 0 u.numbers)

abbrev pub claims_at : Reading → ℕ → List Claim
claims_at r i = option_map_or (claims_in i) (used_at r i) []

-- what all inodes in use claim
unfoldable pub claims_of : Reading → List Claim
claims_of r = flat_map (claims_at r) (range_with_len 0 (inodes_in r))

-- how many places claim block b
abbrev pub claims_on : Reading → ℕ → ℕ
claims_on r b = count_by (λ claim. claim.block == b) (claims_of r)

-- block b is claimed
abbrev pub is_claimed : Reading → ℕ → Bool
is_claimed r b = list_any (λ claim. claim.block == b) (claims_of r)

-- What a change of a few bytes asks of a reading: all claims are of body blocks, and each of these is claimed once at most.
pub record IsLaid (g : Geometry) (r : Reading) : Type 0 where
  pub bodies : All (λ claim. is_body g claim.block ≡ true) (claims_of r)
  pub once : (b : ℕ) → is_body g b ≡ true → claims_on r b ≤ 1
