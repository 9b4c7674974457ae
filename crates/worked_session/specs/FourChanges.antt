-- The changes by which four calls are carried out on the worked new volume: a directory is made in block 38 and removed, and a file
-- is made and gets block 38. What is read of the volume after each.
use Rattle.std.specs.Prelude.{ℕ, ◌-◌, true, List, [], ◌∷◌, ◌++◌, length, replicate, Some, None, codes}
use Rattle.volume_model.specs.declared.inode.Dinode.{Dinode}
use Rattle.volume_model.specs.declared.directory.Slot.{Slot}
use Rattle.volume_model.specs.Format.{GroupRecord, group_bytes, dinode_bytes, chunk_bytes, new_directory}
use Rattle.volume_model.specs.Sound.{Single, UsedInode, Unused, InUse, Reading}
use Rattle.volume_model.specs.Worked.{smallest, made_root}
use Rattle.history_model.specs.WorkedTrees.{first_chunk, slot}
use Rattle.meta_store.specs.declared.change.Change.{Change}
use Rattle.meta_store.specs.Deltas.{group_delta, inode_delta, chunk_delta, zero_delta, cancel_delta}

-- the group's record with these counts, and these bits of its first eight inodes and blocks
abbrev pub group_of_counts : (inodes others inode_bits block_bits : ℕ) → GroupRecord
group_of_counts inodes others inode_bits block_bits =
    record { number = 0; free_inodes = inodes; free_blocks = others; inode_bits = inode_bits ∷ replicate 127 0; block_bits = block_bits ∷ replicate 255 0 }

-- a new volume; with inode 3 and block 38 in use; and with inode 3 alone
abbrev pub group_new : GroupRecord
group_new = group_of_counts 29 61 7 7

abbrev pub group_used : GroupRecord
group_used = group_of_counts 28 60 15 15

abbrev pub group_of_file : GroupRecord
group_of_file = group_of_counts 28 61 15 7

-- the root with so many links, the directory, and the file with this size and these blocks
abbrev pub root_with : (links : ℕ) → Dinode
root_with links = record made_root { links = links }

abbrev pub directory_three : Dinode
directory_three = record made_root { direct = 38 ∷ replicate 11 0 }

abbrev pub file_three : (size : ℕ) → (numbers : List ℕ) → Dinode
file_three size numbers = record made_root {
  mode = 0x81a4;
  links = 1;
  size = size;
  direct = numbers ++ replicate (12 - length numbers) 0;
  blocks = length numbers;
}

-- the slots of the root, with this name of inode 3
abbrev pub root_naming : List ℕ → List Slot
root_naming name = first_chunk 2 2 (slot 3 488 name ∷ [])

abbrev pub mkdir_change : Change
mkdir_change = record {
  deltas = group_delta smallest 0 (group_bytes group_used)
      ∷ (inode_delta smallest 2 (dinode_bytes (Some (root_with 3)))
      ∷ (inode_delta smallest 3 (dinode_bytes (Some directory_three))
      ∷ (chunk_delta 37 0 (chunk_bytes (root_naming (codes "d"))) ∷ (zero_delta 38 ∷ (chunk_delta 38 0 (chunk_bytes (new_directory 3 2)) ∷ [])))));
  taken = 38 ∷ [];
  freed = [];
  raw = [];
}

abbrev pub rmdir_change : Change
rmdir_change = record {
  deltas = group_delta smallest 0 (group_bytes group_new)
      ∷ (inode_delta smallest 2 (dinode_bytes (Some (root_with 2)))
      ∷ (inode_delta smallest 3 (dinode_bytes None) ∷ (chunk_delta 37 0 (chunk_bytes (new_directory 2 2)) ∷ (cancel_delta 38 ∷ []))));
  taken = [];
  freed = record { block = record { 0 = 38 }; meta = true } ∷ [];
  raw = [];
}

abbrev pub create_change : Change
create_change = record {
  deltas = group_delta smallest 0 (group_bytes group_of_file)
      ∷ (inode_delta smallest 3 (dinode_bytes (Some (file_three 0 []))) ∷ (chunk_delta 37 0 (chunk_bytes (root_naming (codes "f"))) ∷ []));
  taken = [];
  freed = [];
  raw = [];
}

-- after the bytes are written into block 38
abbrev pub write_change : Change
write_change = record {
  deltas = group_delta smallest 0 (group_bytes group_used) ∷ (inode_delta smallest 3 (dinode_bytes (Some (file_three 3 (38 ∷ [])))) ∷ []);
  taken = 38 ∷ [];
  freed = [];
  raw = [];
}

-- an inode in use with this record and these chunks, and without a pointer block
abbrev pub used_with : Dinode → List (List Slot) → UsedInode
used_with d [] = record { inode = d; pointers = record { name = Single; block = 0 } ∷ []; numbers = d.direct ++ (replicate 1024 0 ++ []); chunks = [] }
used_with d (slots ∷ more) = record { inode = d; pointers = record { name = Single; block = 0 } ∷ []; numbers = d.direct ++ (replicate 1024 0 ++ []); chunks = Some slots ∷ [] }

-- the reading of a volume with this group, and these inodes from inode 2 on
abbrev pub reading_with : GroupRecord → List UsedInode → Reading
reading_with group [] = record { groups = Some group ∷ []; inodes = replicate 32 Unused }
reading_with group (root ∷ []) = record { groups = Some group ∷ []; inodes = Unused ∷ (Unused ∷ (InUse root ∷ replicate 29 Unused)) }
reading_with group (root ∷ (three ∷ more)) = record { groups = Some group ∷ []; inodes = Unused ∷ (Unused ∷ (InUse root ∷ (InUse three ∷ replicate 28 Unused))) }

abbrev pub new_reading : Reading
new_reading = reading_with group_new (used_with (root_with 2) (new_directory 2 2 ∷ []) ∷ [])

abbrev pub reading_of_directory : Reading
reading_of_directory = reading_with group_used (used_with (root_with 3) (root_naming (codes "d") ∷ []) ∷ (used_with directory_three (new_directory 3 2 ∷ []) ∷ []))

abbrev pub reading_of_file : Reading
reading_of_file = reading_with group_of_file (used_with (root_with 2) (root_naming (codes "f") ∷ []) ∷ (used_with (file_three 0 []) [] ∷ []))

abbrev pub reading_of_letters : Reading
reading_of_letters = reading_with group_used (used_with (root_with 2) (root_naming (codes "f") ∷ []) ∷ (used_with (file_three 3 (38 ∷ [])) [] ∷ []))
