-- What a call that wants an inode or blocks of a volume is answered.
use Rattle.std.specs.Prelude.{◌≡◌, ℕ, ◌-◌, ◌==◌, nat_lt, Bool, true, false, not, ◌&&◌, ◌||◌, if◌then◌else◌, List, length, take, Option, None, is_some, find}
use Rattle.std.specs.List.{count_by, filter, range_with_len}
use Rattle.lufs_base.specs.Layout.{blocks_of}
use Rattle.lufs_base.specs.declared.geometry.Geometry.{Geometry}
use Rattle.volume_model.specs.declared.hand.Hand.{Hand}
use Rattle.volume_model.specs.Format.{inodes_of, is_body}
use Rattle.volume_model.specs.Sound.{Reading, is_claimed, held_inodes, held_blocks, is_among, Tree, free_inodes_of, free_blocks_of}
use Rattle.tree_types.specs.declared.waiting.Wait.TheVariants.{Unreleased, InHand}
use Rattle.block_alloc.specs.declared.taken.Taken.{Taken}
use Rattle.block_alloc.specs.declared.taken.Taken.TheVariants.{Got, Later, NoInodes, NoSpace}

-- so many inodes and blocks of a tree are free, those in hand among them
pub record AreFree (g : Geometry) (tree : Tree) (free_inodes free_blocks : ℕ) : Type 0 where
  pub inodes : free_inodes ≡ free_inodes_of g tree
  pub blocks : free_blocks ≡ free_blocks_of g tree

-- a body block that no inode claims
abbrev pub is_unclaimed : Geometry → Reading → ℕ → Bool
is_unclaimed g r b = is_body g b && not (is_claimed r b)

-- How many of them are released or in hand. `may` says which blocks may be given out now.
abbrev pub released_blocks : Geometry → Reading → (may : ℕ → Bool) → List Hand → ℕ
released_blocks g r may hands =
    count_by (λ b. is_unclaimed g r b && (may b || is_among b (held_blocks hands))) (range_with_len 0 (blocks_of g))

-- those that may be given out and are in no hand, rising
abbrev pub blocks_left : Geometry → Reading → (may : ℕ → Bool) → List Hand → List ℕ
blocks_left g r may hands =
    filter (λ b. is_unclaimed g r b && (may b && not (is_among b (held_blocks hands)))) (range_with_len 0 (blocks_of g))

-- the inodes from 2 on that are neither in the tree nor in hand: the lowest one
abbrev pub lowest_inode : Geometry → Tree → List Hand → Option ℕ
lowest_inode g tree hands =
    find (λ i. not (is_some (tree i)) && not (is_among i (held_inodes hands))) (range_with_len 2 (inodes_of g - 2))

-- the hand of a call that wants an inode or none, and n blocks
abbrev pub hand_for : Geometry → Reading → Tree → (may : ℕ → Bool) → List Hand → (inode : Bool) → (n : ℕ) → Hand
hand_for g r tree may hands inode n = record {
  inode = if inode then lowest_inode g tree hands else None;
  blocks = take n (blocks_left g r may hands);
}

-- What such a call is answered, by how many inodes and blocks are free, how many of these blocks are released or in hand,
-- and how many inodes and blocks are in hand.
unfoldable pub answer_by : (inode : Bool) → (n free_inodes free_blocks released inodes_in_hand blocks_in_hand : ℕ) → Hand → Taken
answer_by inode n free_inodes free_blocks released inodes_in_hand blocks_in_hand hand =
    if inode && free_inodes == 0 then NoInodes
    else (if nat_lt free_blocks n then NoSpace
    else (if inode && free_inodes == inodes_in_hand then Later (InHand true 1 free_inodes inodes_in_hand)
    else (if nat_lt released n then Later (Unreleased released free_blocks n)
    else (if nat_lt (released - blocks_in_hand) n then Later (InHand false n released blocks_in_hand)
    else Got hand))))

abbrev pub answer_of : Geometry → Reading → Tree → (may : ℕ → Bool) → List Hand → (inode : Bool) → (n : ℕ) → Taken
answer_of g r tree may hands inode n =
    answer_by inode n (free_inodes_of g tree) (free_blocks_of g tree) (released_blocks g r may hands)
    (length (held_inodes hands)) (length (held_blocks hands)) (hand_for g r tree may hands inode n)
