-- The roles that the blocks of a volume have, by what its records say.
use Rattle.std.specs.Prelude.{ℕ, ◌-◌, ◌*◌, ◌==◌, if◌then◌else◌, List, [], ◌∷◌}
use Rattle.std.specs.Option.{option_map_or}
use Rattle.lufs_base.specs.declared.geometry.Geometry.{Geometry}
use Rattle.volume_model.specs.Format.{is_file, is_directory}
use Rattle.volume_model.specs.Sound.{UsedInode, Reading, used_at, Part, AtIndex, AtPointer, Claim, claims_of, length_of_records}
use Rattle.journal_model.specs.BlockRoles.{Role, Metadata, FileBytes, Unclaimed}

-- A pointer block and a block of a directory are metadata as a whole, and that of a link as far as its text goes.
abbrev pub part_role : UsedInode → Part → Role
part_role u (AtIndex index) =
    if is_file u.inode.mode then FileBytes else (if is_directory u.inode.mode then Metadata 4096 else Metadata (u.inode.size - 4096 * index))
part_role u (AtPointer name) = Metadata 4096

abbrev pub claim_role : Reading → Claim → Role
claim_role r claim = option_map_or (λ u. part_role u claim.part) (used_at r claim.inode) Unclaimed

-- the role by the first of these claims that is on the block
abbrev pub role_by : Reading → List Claim → ℕ → Role
role_by r [] b = Unclaimed
role_by r (claim ∷ claims) b = if claim.block == b then claim_role r claim else role_by r claims b

-- blocks of groups and of inodes are metadata, and others what their claim makes them
unfoldable pub role_of : Geometry → Reading → ℕ → Role
role_of g r b = if length_of_records g b == 0 then role_by r (claims_of r) b else Metadata 4096
