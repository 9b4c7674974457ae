-- How `mkfs` goes about its work: the bytes of each group's metadata, and the calls of the disk in order.
use Rattle.std.specs.Prelude.{◌≡◌, ℕ, ◌-◌, ◌*◌, ◌/◌, ◌==◌, if◌then◌else◌, List, [], ◌∷◌, ◌++◌, length, map, replicate, Some}
use Rattle.std.specs.List.{range_with_len}
use Rattle.lufs_base.specs.Layout.{sector_size, block_size, superblock_sector, header_sector, group_start}
use Rattle.lufs_base.specs.declared.geometry.Geometry.{Geometry}
use Rattle.volume_model.specs.declared.device_call.DeviceCall.{DeviceCall}
use Rattle.volume_model.specs.declared.device_call.DeviceCall.TheVariants.{Write, Flush}
use Rattle.volume_model.specs.Format.{super_bytes, group_bytes, dinode_bytes, new_directory, chunk_bytes}
use Rattle.volume_model.specs.Log.{header_bytes}
use Rattle.volume_model.specs.MkfsImage.{made_header, made_group, made_root, block_with}

-- the sectors of the log
abbrev pub log_bytes : Geometry → List ℕ
log_bytes g = header_bytes made_header ++ replicate (sector_size * (g.log - 1)) 0

-- the group block of group n
abbrev pub group_block_of : Geometry → ℕ → List ℕ
group_block_of g n = block_with 0 (group_bytes (made_group g n))

-- the group block of the first group, its inode blocks, the first of which has the root, and the root's block
abbrev pub first_metadata : Geometry → ℕ → List ℕ
first_metadata g moment =
    group_block_of g 0 ++ (block_with 256 (dinode_bytes (Some (made_root g moment))) ++ (replicate (block_size * (g.ipg / 32 - 1)) 0
    ++ block_with 0 (chunk_bytes (new_directory 2 2))))

-- the group block of another group, and its inode blocks
abbrev pub other_metadata : Geometry → ℕ → List ℕ
other_metadata g n = group_block_of g n ++ replicate (block_size * (g.ipg / 32)) 0

-- a block, and room for the inode blocks of a group but the first, which are zeros
abbrev pub IsRoom : Geometry → List ℕ → Type 0
IsRoom g bytes = (front : List ℕ) × (length front ≡ block_size) × (bytes ≡ front ++ replicate (block_size * (g.ipg / 32)) 0)

-- the metadata of group n, where this is the first group's
abbrev pub metadata_with : Geometry → List ℕ → ℕ → List ℕ
metadata_with g first n = if n == 0 then first else other_metadata g n

abbrev pub metadata_of : Geometry → ℕ → ℕ → List ℕ
metadata_of g moment n = metadata_with g (first_metadata g moment) n

-- the calls that write the superblock's sector, and keep it
abbrev pub sealing : List ℕ → List DeviceCall
sealing sector = Write superblock_sector sector ∷ (Flush ∷ [])

abbrev pub clearing : List DeviceCall
clearing = sealing (replicate sector_size 0)

-- the call that writes the metadata of group n
abbrev pub group_call : Geometry → List ℕ → ℕ → DeviceCall
group_call g first n = Write (8 * group_start g n) (metadata_with g first n)

-- those of the first n groups
abbrev pub group_calls : Geometry → List ℕ → ℕ → List DeviceCall
group_calls g first n = map (group_call g first) (range_with_len 0 n)

-- those of the log and of all groups, and the flush that keeps them
abbrev pub filling_with : Geometry → (log first : List ℕ) → List DeviceCall
filling_with g log first = Write (header_sector g) log ∷ (group_calls g first g.groups ++ (Flush ∷ []))

abbrev pub filling : Geometry → ℕ → List DeviceCall
filling g moment = filling_with g (log_bytes g) (first_metadata g moment)

-- all calls, where the log and the first group's metadata are these
abbrev pub volume_calls : Geometry → (log first : List ℕ) → List DeviceCall
volume_calls g log first = clearing ++ (filling_with g log first ++ sealing (super_bytes g))

-- all calls, in order: no volume any more, then all that the superblock names, then the superblock
abbrev pub mkfs_calls : Geometry → ℕ → List DeviceCall
mkfs_calls g moment = volume_calls g (log_bytes g) (first_metadata g moment)
