-- A change of one group's record: inodes and blocks go between free and held. No inode changes.
use Rattle.std.specs.Prelude.{◌≡◌, ◌≢◌, ◌<◌, ◌≤◌, ℕ, ◌+◌, ◌-◌, ◌*◌, ◌/◌, ◌%◌, Bool, true, false, ◌||◌, if◌then◌else◌, List, [], ◌∷◌, All, AllPairs, is_some}
use Rattle.lufs_base.specs.Layout.{group_start}
use Rattle.lufs_base.specs.declared.geometry.Geometry.{Geometry}
use Rattle.volume_model.specs.declared.hand.Hand.{Hand}
use Rattle.volume_model.specs.Format.{is_body, GroupRecord, bit_at, HasBit}
use Rattle.volume_model.specs.Sound.{Reading, inodes_in, used_at, is_claimed, held_inodes, held_blocks, is_among, AreApart, inode_bit, block_bit, has_right_counts}

-- the group of an inode, and that of a block of a group
abbrev pub group_of_inode : Geometry → ℕ → ℕ
group_of_inode g i = i / g.ipg

abbrev pub group_of_block : Geometry → ℕ → ℕ
group_of_block g b = (b - group_start g 0) / g.bpg

-- the place of that block in its group
abbrev pub place_of_block : Geometry → ℕ → ℕ
place_of_block g b = (b - group_start g 0) % g.bpg

-- Group n gets another record, and the hands become others. The counts of the record are right, and its bits say what is in
-- use, claimed, or held after; of other groups the hands hold what they held.
pub record Marks (g : Geometry) (r : Reading) (n : ℕ) (group : GroupRecord) (hands others : List Hand) : Type 0 where
  pub within : n < g.groups
  pub counts : has_right_counts g group ≡ true
  pub apart : AreApart g r others
  pub inode_bits : (i : ℕ) → 2 ≤ i → i < inodes_in r → group_of_inode g i ≡ n
      → bit_at group.inode_bits (i % g.ipg) ≡ (is_some (used_at r i) || is_among i (held_inodes others))
  pub block_bits : (b : ℕ) → is_body g b ≡ true → group_of_block g b ≡ n
      → bit_at group.block_bits (place_of_block g b) ≡ (is_claimed r b || is_among b (held_blocks others))
  pub other_inodes : (i : ℕ) → 2 ≤ i → i < inodes_in r → group_of_inode g i ≢ n → is_among i (held_inodes others) ≡ is_among i (held_inodes hands)
  pub other_blocks : (b : ℕ) → is_body g b ≡ true → group_of_block g b ≢ n → is_among b (held_blocks others) ≡ is_among b (held_blocks hands)

-- All that the hand holds is of group n.
pub record IsOfGroup (g : Geometry) (n : ℕ) (hand : Hand) : Type 0 where
  pub inode : All (λ i. group_of_inode g i ≡ n) (held_inodes (hand ∷ []))
  pub blocks : All (λ b. group_of_block g b ≡ n) hand.blocks

-- All that the hand holds is free by its bits: an inode that a call may make, and body blocks, none of them twice.
pub record IsFree (g : Geometry) (r : Reading) (hand : Hand) : Type 0 where
  pub apart : AllPairs (λ b c. b ≢ c) hand.blocks
  pub usable : All (λ i. (2 ≤ i) × (i < inodes_in r)) (held_inodes (hand ∷ []))
  pub inode_clear : All (λ i. inode_bit g r i ≡ false) (held_inodes (hand ∷ []))
  pub body : All (λ b. is_body g b ≡ true) hand.blocks
  pub blocks_clear : All (λ b. block_bit g r b ≡ false) hand.blocks

-- In the record of group n the bits of all that the hand holds have this value after, and all others are as they were.
pub record HasHandPut (g : Geometry) (n : ℕ) (value : Bool) (hand : Hand) (old new : GroupRecord) : Type 0 where
  pub inode_bits : (place : ℕ) → place < g.ipg
      → bit_at new.inode_bits place ≡ (if is_among (n * g.ipg + place) (held_inodes (hand ∷ [])) then value else bit_at old.inode_bits place)
  pub block_bits : (place : ℕ) → place < g.bpg
      → bit_at new.block_bits place ≡ (if is_among (group_start g n + place) hand.blocks then value else bit_at old.block_bits place)

-- In the record of a group the bit of the block at this place has this value after. Its count aside, all else is as it was.
pub record HasBlockPut (place : ℕ) (value : Bool) (old new : GroupRecord) : Type 0 where
  pub bits : HasBit place value old.block_bits new.block_bits
  pub number : new.number ≡ old.number
  pub free_inodes : new.free_inodes ≡ old.free_inodes
  pub inode_bits : new.inode_bits ≡ old.inode_bits

-- the same of an inode
pub record HasInodePut (place : ℕ) (value : Bool) (old new : GroupRecord) : Type 0 where
  pub bits : HasBit place value old.inode_bits new.inode_bits
  pub number : new.number ≡ old.number
  pub free_blocks : new.free_blocks ≡ old.free_blocks
  pub block_bits : new.block_bits ≡ old.block_bits
