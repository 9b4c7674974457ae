-- The records of a transaction: which deltas may be logged, and in which order.
use Rattle.std.specs.Prelude.{ℕ, ◌+◌, ◌/◌, ◌%◌, ◌==◌, nat_lt, nat_le, Bool, true, false, not, ◌&&◌, ◌||◌, if◌then◌else◌, List, [], ◌∷◌, Option, find, sum_by}
use Rattle.lufs_base.specs.Kinds.{has_bytes, is_zero_block, is_cancel}
use Rattle.lufs_base.specs.Layout.{blocks_of, region_of}
use Rattle.lufs_base.specs.declared.geometry.Geometry.{Geometry}
use Rattle.lufs_base.specs.declared.geometry.Region.{Region}
use Rattle.lufs_base.specs.declared.geometry.Region.TheVariants.{GroupBlock, Inodes, Body}
use Rattle.lufs_base.specs.declared.delta.Delta.{Delta}
use Rattle.lufs_base.specs.declared.delta.DeltaKind.{DeltaKind}
use Rattle.lufs_base.specs.declared.delta.DeltaKind.TheVariants.{Group, Inode, Chunk, Pointers, Zero, LinkText, Cancel}

-- the type of a record of this kind; that of a commit record is 8
abbrev pub type_of : DeltaKind → ℕ
type_of Group = 1
type_of Inode = 2
type_of Chunk = 3
type_of Pointers = 4
type_of Zero = 5
type_of LinkText = 6
type_of Cancel = 7

abbrev pub commit_type : ℕ
commit_type = 8

abbrev pub all_kinds : List DeltaKind
all_kinds = Group ∷ Inode ∷ Chunk ∷ Pointers ∷ Zero ∷ LinkText ∷ Cancel ∷ []

-- the kind that a record's type names
abbrev pub kind_of : ℕ → Option DeltaKind
kind_of type = find (λ kind. type == type_of kind) all_kinds

-- how many bytes of a delta stand in the log
abbrev pub logged_len : DeltaKind → ℕ → ℕ
logged_len kind len = if has_bytes kind then len else 0

-- the bytes that deltas take in the log, with the 16 bytes at the head of each
abbrev pub delta_bytes : List Delta → ℕ
delta_bytes deltas = sum_by (λ d. 16 + logged_len d.kind d.len) deltas

-- which blocks deltas of a kind lie on
abbrev pub is_home_of : DeltaKind → Region → Bool
is_home_of Group (GroupBlock n) = true
is_home_of Group r = false
is_home_of Inode (Inodes n) = true
is_home_of Inode r = false
is_home_of Chunk (Body n) = true
is_home_of Chunk r = false
is_home_of Pointers (Body n) = true
is_home_of Pointers r = false
is_home_of Zero (Body n) = true
is_home_of Zero r = false
is_home_of LinkText (Body n) = true
is_home_of LinkText r = false
is_home_of Cancel (Body n) = true
is_home_of Cancel r = false

-- where in its block a delta of a kind may lie, and how long it may be
abbrev pub is_part_of_block : DeltaKind → ℕ → ℕ → Bool
is_part_of_block Group place len = place == 0 && len == 416
is_part_of_block Inode place len = place % 128 == 0 && len == 128
is_part_of_block Chunk place len = place % 512 == 0 && len == 512
is_part_of_block Pointers place len = place % 4 == 0 && len % 4 == 0 && nat_le 4 len && nat_le (place + len) 4096
is_part_of_block Zero place len = place == 0 && len == 4096
is_part_of_block LinkText place len = place == 0 && nat_le 1 len && nat_le len 1024
is_part_of_block Cancel place len = place == 0 && len == 4096

-- a delta of this kind may have this home and this length
unfoldable pub may_be_logged : Geometry → DeltaKind → ℕ → ℕ → Bool
may_be_logged g kind home len =
    nat_lt (home / 4096) (blocks_of g) && is_home_of kind (region_of g (home / 4096)) && is_part_of_block kind (home % 4096) len

-- A delta may stand somewhere before another one in a transaction: homes rise, but a zero block may share
-- its home with what is laid over it; logged bytes don't overlap; a cancelled block has no other delta.
unfoldable pub may_precede : Delta → DeltaKind → ℕ → Bool
may_precede d kind home =
    (nat_lt d.home home || (d.home == home && is_zero_block d.kind && not (is_zero_block kind)))
    && (not (has_bytes d.kind && has_bytes kind) || nat_le (d.home + d.len) home)
    && (not (is_cancel d.kind || is_cancel kind) || not (d.home / 4096 == home / 4096))
