-- What a check finds in the numbers of an inode, and what it keeps of the blocks that inodes claim.
use Rattle.std.specs.Prelude.{◌≡◌, ◌≢◌, ◌<◌, ◌≤◌, ℕ, ◌-◌, ◌*◌, ◌%◌, ◌==◌, nat_le, true, not, List, ◌∷◌, ◌++◌, length, replicate, slice_index, find, Option}
use Rattle.std.specs.List.{filter, list_any, count_by, range_with_len}
use Rattle.lufs_base.specs.declared.geometry.Geometry.{Geometry}
use Rattle.volume_model.specs.declared.inode.Dinode.{Dinode}
use Rattle.volume_model.specs.declared.directory.Slot.{Slot}
use Rattle.volume_model.specs.Format.{bit_at, is_body}
use Rattle.volume_model.specs.Sound.{UsedInode, named_pointers, size_in_blocks}
use Rattle.fsck_core.specs.declared.claims.Claims.{Claims}

-- An inode in use, with these block numbers by index and these chunks.
abbrev pub used_with : Dinode → (numbers : List ℕ) → (chunks : List (Option (List Slot))) → UsedInode
used_with d numbers chunks = record { inode = d; pointers = named_pointers d; numbers = numbers; chunks = chunks }

-- these numbers, and zeros at the indexes after them
abbrev pub with_zeros : (numbers : List ℕ) → List ℕ
with_zeros numbers = numbers ++ replicate (1036 - length numbers) 0

-- those of these numbers that aren't 0
abbrev pub nonzero : List ℕ → List ℕ
nonzero numbers = filter (λ b. not (b == 0)) numbers

-- The blocks that an inode with these numbers claims, each as often as it does: its pointer block, and the block at each
-- index.
abbrev pub blocks_claimed : Dinode → (numbers : List ℕ) → List ℕ
blocks_claimed d numbers = nonzero (slice_index d.indirect 0 ∷ numbers)

-- What a reader of a directory with these numbers needs: its size is whole chunks in at most 256 blocks, and there is a
-- body block at each index below it.
pub record IsReadable (g : Geometry) (d : Dinode) (numbers : List ℕ) : Type 0 where
  pub chunks : d.size % 512 ≡ 0
  pub most : d.size ≤ 4096 * 256
  pub fits : size_in_blocks d.size ≤ length numbers
  pub held : (k : ℕ) → k < size_in_blocks d.size → slice_index numbers k ≢ 0
  pub bodies : (k : ℕ) → k < size_in_blocks d.size → is_body g (slice_index numbers k) ≡ true

-- how many of these numbers are b
abbrev pub times : ℕ → List ℕ → ℕ
times b blocks = count_by (λ c. c == b) blocks

-- Of a volume of so many blocks these were claimed: which they are, how many, and the lowest that was claimed twice.
pub record HasClaimed (total : ℕ) (blocks : List ℕ) (c : Claims) : Type 0 where
  pub room : total < 8 * length c.bits.items
  pub each : (b : ℕ) → b < total → bit_at c.bits.items b ≡ list_any (λ a. a == b) blocks
  pub count : c.count ≡ length blocks
  pub twice : c.twice ≡ find (λ b. nat_le 2 (times b blocks)) (range_with_len 0 total)
