-- The group in memory: the record that it stands for, and its counts.
use Rattle.std.specs.Prelude.{◌≡◌}
use Rattle.lufs_base.specs.declared.geometry.Geometry.{Geometry}
use Rattle.volume_model.specs.Format.{GroupRecord, clear_bits}
use Rattle.cyl_groups.specs.declared.group.Group.{Group}

-- the record that a group stands for
abbrev pub record_of : Group → GroupRecord
record_of x = record {
  number = x.number;
  free_inodes = x.free_inodes;
  free_blocks = x.free_blocks;
  inode_bits = x.inode_bits;
  block_bits = x.block_bits;
}

-- the group has as many inodes and blocks as the geometry says
pub record HasSizesOf (g : Geometry) (x : Group) : Type 0 where
  pub ipg : x.ipg ≡ g.ipg
  pub bpg : x.bpg ≡ g.bpg

-- the counts are the numbers of clear bits in range
pub record IsCounted (x : Group) : Type 0 where
  pub inodes : x.free_inodes ≡ clear_bits x.inode_bits x.ipg
  pub blocks : x.free_blocks ≡ clear_bits x.block_bits x.bpg

-- all but the inode bits and their count is as it was
pub record OnlyInodes (old new : Group) : Type 0 where
  pub number : new.number ≡ old.number
  pub ipg : new.ipg ≡ old.ipg
  pub bpg : new.bpg ≡ old.bpg
  pub free_blocks : new.free_blocks ≡ old.free_blocks
  pub block_bits : new.block_bits ≡ old.block_bits

-- all but the block bits and their count is as it was
pub record OnlyBlocks (old new : Group) : Type 0 where
  pub number : new.number ≡ old.number
  pub ipg : new.ipg ≡ old.ipg
  pub bpg : new.bpg ≡ old.bpg
  pub free_inodes : new.free_inodes ≡ old.free_inodes
  pub inode_bits : new.inode_bits ≡ old.inode_bits
