-- The record of an inode: 128 bytes of an inode block.
use Rattle.std.specs.Prelude.{◌≡◌, ℕ, zero, suc, ◌+◌, ◌^◌, ◌<◌, ◌==◌, nat_le, Bool, not, ◌&&◌, ◌||◌, IsTrue, if◌then◌else◌, List, [], ◌∷◌, ◌++◌, length, take, drop, replicate, slice_index, Option, Some, None}
use Rattle.std.specs.List.{flat_map}
use Rattle.lufs_base.specs.Fields.{number_in, u16_at, u32_at, u64_at, field_bytes, are_zeros}
use Rattle.volume_model.specs.declared.inode.Dinode.{Dinode}

-- the mode has just these type bits, and rights of 0 to 777 octal
abbrev pub has_type : (type mode : ℕ) → Bool
has_type type mode = nat_le type mode && nat_le mode (type + 0x1ff)

-- the types of inodes: 100000, 040000 and 120000 octal
abbrev pub is_file : ℕ → Bool
is_file mode = has_type 0x8000 mode

abbrev pub is_directory : ℕ → Bool
is_directory mode = has_type 0x4000 mode

abbrev pub is_link : ℕ → Bool
is_link mode = has_type 0xa000 mode

abbrev pub is_mode : ℕ → Bool
is_mode mode = is_file mode || is_directory mode || is_link mode

-- the first n numbers of four bytes
unfoldable pub numbers_in : ℕ → List ℕ → List ℕ
numbers_in zero bytes = []
numbers_in (suc n) bytes = number_in 4 bytes ∷ numbers_in n (drop 4 bytes)

-- The numbers that these bytes name.
abbrev pub named_dinode : List ℕ → Dinode
named_dinode bytes = record {
  mode = u16_at bytes 0;
  links = u16_at bytes 2;
  uid = u32_at bytes 4;
  gid = u32_at bytes 8;
  size = u64_at bytes 16;
  mtime = u64_at bytes 24;
  direct = numbers_in 12 (drop 32 bytes);
  indirect = numbers_in 3 (drop 80 bytes);
  blocks = u32_at bytes 92;
}

-- version 1 has no second and no third indirect block
abbrev pub has_indirect : (version second third : ℕ) → Bool
has_indirect version second third = not (version == 1) || (second == 0 && third == 0)

-- the bytes are the record of an inode in use
abbrev pub is_dinode : ℕ → List ℕ → Bool
is_dinode version bytes =
    is_mode (u16_at bytes 0) && are_zeros (take 4 (drop 12 bytes)) && are_zeros (drop 96 bytes)
    && has_indirect version (u32_at bytes 84) (u32_at bytes 88)

-- what these bytes are: Some None is a free record, and None is no record
unfoldable pub dinode_of : ℕ → List ℕ → Option (Option Dinode)
dinode_of version bytes =
    if are_zeros bytes then Some None else (if is_dinode version bytes then Some (Some (named_dinode bytes)) else None)

abbrev pub numbers_bytes : List ℕ → List ℕ
numbers_bytes numbers = flat_map (λ n. field_bytes 4 n) numbers

-- the bytes of a record; without an inode those of a free one
unfoldable pub dinode_bytes : Option Dinode → List ℕ
dinode_bytes None = replicate 128 0
dinode_bytes (Some d) =
    field_bytes 2 d.mode ++ (field_bytes 2 d.links ++ (field_bytes 4 d.uid ++ (field_bytes 4 d.gid ++ (replicate 4 0
    ++ (field_bytes 8 d.size ++ (field_bytes 8 d.mtime ++ (numbers_bytes d.direct ++ (numbers_bytes d.indirect
    ++ (field_bytes 4 d.blocks ++ replicate 32 0)))))))))

-- an inode as a record of this version can hold it
pub record IsDinode (version : ℕ) (d : Dinode) : Type 0 where
  pub mode : IsTrue (is_mode d.mode)
  pub links_fits : d.links < 2 ^ 16
  pub uid_fits : d.uid < 2 ^ 32
  pub gid_fits : d.gid < 2 ^ 32
  pub size_fits : d.size < 2 ^ 64
  pub mtime_fits : d.mtime < 2 ^ 64
  pub direct_size : length d.direct ≡ 12
  pub direct_fits : (i : ℕ) → slice_index d.direct i < 2 ^ 32
  pub indirect_size : length d.indirect ≡ 3
  pub indirect_fits : (i : ℕ) → slice_index d.indirect i < 2 ^ 32
  pub blocks_fits : d.blocks < 2 ^ 32
  pub indirect_in_version : IsTrue (has_indirect version (slice_index d.indirect 1) (slice_index d.indirect 2))
