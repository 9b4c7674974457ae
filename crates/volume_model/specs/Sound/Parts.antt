-- The three parts of what sound means: what is stored, the tree that the names make, and the links.
use Rattle.std.specs.Prelude.{◌≡◌, ◌<◌, ℕ, true, false, List}
use Rattle.lufs_base.specs.Layout.{blocks_of}
use Rattle.lufs_base.specs.declared.geometry.Geometry.{Geometry}
use Rattle.volume_model.specs.declared.hand.Hand.{Hand}
use Rattle.volume_model.specs.Format.{inodes_of}
use Rattle.volume_model.specs.Sound.Readings.{Reading, inodes_in}
use Rattle.volume_model.specs.Sound.Hands.{AreApart}
use Rattle.volume_model.specs.Sound.RecordRules.{is_bad_group, is_bad_inode, has_bad_numbers, has_links_out_of_range, is_claimed_twice}
use Rattle.volume_model.specs.Sound.NameRules.{Names, is_directory_in, has_bad_slots, names_unused, has_bad_parent, has_bad_bytes, has_bad_links}
use Rattle.volume_model.specs.Sound.BitRules.{has_bad_inode_bit, has_bad_block_bit, has_bad_count}
use Rattle.volume_model.specs.Sound.Trees.{Tree, names_in_tree}

-- Each record can be read, the numbers of blocks are right, no block is claimed twice, bits and counts are those of what is
-- in use or held, and what is held is free.
pub record IsStored (g : Geometry) (r : Reading) (hands : List Hand) : Type 0 where
  pub groups : (n : ℕ) → n < g.groups → is_bad_group r n ≡ false
  pub inodes : (i : ℕ) → i < inodes_in r → is_bad_inode r i ≡ false
  pub numbers : (i : ℕ) → i < inodes_in r → has_bad_numbers g r i ≡ false
  pub once : (b : ℕ) → b < blocks_of g → is_claimed_twice r b ≡ false
  pub chunks : (i : ℕ) → i < inodes_in r → has_bad_bytes r i ≡ false
  pub inode_bits : (i : ℕ) → i < inodes_in r → has_bad_inode_bit g r hands i ≡ false
  pub block_bits : (b : ℕ) → b < blocks_of g → has_bad_block_bit g r hands b ≡ false
  pub counts : (n : ℕ) → n < g.groups → has_bad_count g r n ≡ false
  pub apart : AreApart g r hands

-- Of n inodes the names make a tree: the root is a directory, each directory begins as it should, has no name twice, names
-- inodes in use, and has its one place below the root.
pub record MakeATree (n : ℕ) (m : Names) : Type 0 where
  pub root : is_directory_in m 2 ≡ true
  pub slots : (i : ℕ) → i < n → has_bad_slots m i ≡ false
  pub used : (i : ℕ) → i < n → names_unused m i ≡ false
  pub parents : (i : ℕ) → i < n → has_bad_parent n m i ≡ false

abbrev pub IsRightTree : Geometry → Tree → Type 0
IsRightTree g tree = MakeATree (inodes_of g) (names_in_tree tree)

-- the links of each inode in use are in their range, and as many as the slots that name it
pub record HasRightLinks (r : Reading) : Type 0 where
  pub range : (i : ℕ) → i < inodes_in r → has_links_out_of_range r i ≡ false
  pub counted : (i : ℕ) → i < inodes_in r → has_bad_links r i ≡ false
