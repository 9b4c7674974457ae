-- The records of new inodes, and what is put for them.
use Rattle.std.specs.Prelude.{ℕ, ◌+◌, ◌∷◌, replicate, Some}
use Rattle.lufs_base.specs.declared.geometry.Geometry.{Geometry}
use Rattle.tree_types.specs.declared.credentials.Cred.{Cred}
use Rattle.volume_model.specs.declared.inode.Dinode.{Dinode}
use Rattle.volume_model.specs.Format.{dinode_bytes, chunk_bytes, new_directory}
use Rattle.meta_store.specs.declared.change.Change.{Change}
use Rattle.meta_store.specs.Deltas.{inode_delta, chunk_delta, zero_delta}
use Rattle.meta_draft.specs.Drafted.{with_delta}

-- an empty file with one name
abbrev pub file_record : Cred → (rights moment : ℕ) → Dinode
file_record cred rights moment = record {
  mode = 0x8000 + rights;
  links = 1;
  uid = cred.uid;
  gid = cred.gid;
  size = 0;
  mtime = moment;
  direct = replicate 12 0;
  indirect = replicate 3 0;
  blocks = 0;
}

-- an empty directory with two names, its own and that in its parent, whose chunk stands in block b
abbrev pub directory_record : Cred → (rights moment b : ℕ) → Dinode
directory_record cred rights moment b = record {
  mode = 0x4000 + rights;
  links = 2;
  uid = cred.uid;
  gid = cred.gid;
  size = 512;
  mtime = moment;
  direct = b ∷ replicate 11 0;
  indirect = replicate 3 0;
  blocks = 1;
}

-- the change with directory i in block b, of which the slots name it and its parent, and with its record
abbrev pub with_directory : Geometry → (i parent b : ℕ) → Dinode → Change → Change
with_directory g i parent b d change =
    with_delta (with_delta (with_delta change (zero_delta b)) (chunk_delta b 0 (chunk_bytes (new_directory i parent)))) (inode_delta g i (dinode_bytes (Some d)))
