-- The rules of a sound volume about single records: groups, inodes, the numbers in an inode, and claims.
use Rattle.std.specs.Prelude.{ℕ, ◌+◌, ◌*◌, ◌/◌, ◌%◌, ◌==◌, nat_le, nat_lt, Bool, true, false, not, ◌&&◌, ◌||◌, length, take, drop, slice_get, Option, Some, None, is_some}
use Rattle.std.specs.List.{list_all}
use Rattle.std.specs.Option.{option_map_or}
use Rattle.lufs_base.specs.Fields.{are_zeros}
use Rattle.lufs_base.specs.declared.geometry.Geometry.{Geometry}
use Rattle.volume_model.specs.declared.inode.Dinode.{Dinode}
use Rattle.volume_model.specs.Format.{is_body, is_file, is_directory, is_link}
use Rattle.volume_model.specs.Sound.Readings.{Reading, UsedInode, InodeState, NoRecord, Unused, InUse, record_at, used_at, PointerName, Single, direct_blocks, pointers_of_block}
use Rattle.volume_model.specs.Sound.Claims.{claims_in, claims_on}

-- no record of group n stands where it should, with this number
abbrev pub is_bad_group : Reading → ℕ → Bool
is_bad_group r n = not (is_some (record_at r n))

abbrev pub is_bad_state : ℕ → Option InodeState → Bool
is_bad_state i None = true
is_bad_state i (Some NoRecord) = true
is_bad_state i (Some Unused) = false
is_bad_state i (Some (InUse u)) = nat_lt i 2

-- what stands for inode i is no record, or i is 0 or 1 and it is in use
abbrev pub is_bad_inode : Reading → ℕ → Bool
is_bad_inode r i = is_bad_state i (slice_get r.inodes i)

-- how many blocks have room for so many bytes
abbrev pub size_in_blocks : ℕ → ℕ
size_in_blocks size = (size + 4095) / 4096

-- how many blocks the numbers of an inode can name
abbrev pub most_blocks : Geometry → ℕ
most_blocks g = direct_blocks + pointers_of_block

-- the first index that a pointer block serves
abbrev pub first_index : PointerName → ℕ
first_index Single = direct_blocks

abbrev pub has_right_links : Dinode → Bool
has_right_links d = nat_le 1 d.links && nat_le d.links 32767

-- A file has at most the blocks that its numbers can name, a directory whole chunks in at most 256 blocks, and a link a
-- text of 1 to 1,024 bytes.
abbrev pub has_right_size : Geometry → Dinode → Bool
has_right_size g d =
    (is_file d.mode && nat_le d.size (4096 * most_blocks g))
    || (is_directory d.mode && d.size % 512 == 0 && nat_le 512 d.size && nat_le d.size (4096 * 256))
    || (is_link d.mode && nat_le 1 d.size && nat_le d.size 1024)

-- no block is claimed at an index past the size, nor a pointer block where the direct ones have room for the size
abbrev pub has_none_past : UsedInode → Bool
has_none_past u =
    are_zeros (drop (size_in_blocks u.inode.size) u.numbers)
    && list_all (λ p. p.block == 0 || nat_lt (first_index p.name) (size_in_blocks u.inode.size)) u.pointers

-- there is a block at each index below the size
abbrev pub has_no_hole : UsedInode → Bool
has_no_hole u =
    nat_le (size_in_blocks u.inode.size) (length u.numbers)
    && list_all (λ number. not (number == 0)) (take (size_in_blocks u.inode.size) u.numbers)

-- The size, the numbers of blocks and their count are right. A file may have holes.
abbrev pub has_right_numbers : Geometry → ℕ → UsedInode → Bool
has_right_numbers g i u =
    has_right_size g u.inode && list_all (λ claim. is_body g claim.block) (claims_in i u) && has_none_past u
    && (is_file u.inode.mode || has_no_hole u) && u.inode.blocks == length (claims_in i u)

-- so are the links
abbrev pub has_right_fields : Geometry → ℕ → UsedInode → Bool
has_right_fields g i u = has_right_links u.inode && has_right_numbers g i u

-- inode i is in use, and a number of it is out of range
abbrev pub has_bad_fields : Geometry → Reading → ℕ → Bool
has_bad_fields g r i = option_map_or (λ u. not (has_right_fields g i u)) (used_at r i) false

-- the same of its links alone, and of all but its links
abbrev pub has_links_out_of_range : Reading → ℕ → Bool
has_links_out_of_range r i = option_map_or (λ u. not (has_right_links u.inode)) (used_at r i) false

abbrev pub has_bad_numbers : Geometry → Reading → ℕ → Bool
has_bad_numbers g r i = option_map_or (λ u. not (has_right_numbers g i u)) (used_at r i) false

-- two places or more claim block b
abbrev pub is_claimed_twice : Reading → ℕ → Bool
is_claimed_twice r b = nat_le 2 (claims_on r b)
