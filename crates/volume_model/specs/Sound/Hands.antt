-- What calls that are under way hold of a volume: an inode and blocks that are free, but that no other call may take.
use Rattle.std.specs.Prelude.{◌≡◌, ◌≢◌, ◌≤◌, ◌<◌, ℕ, ◌==◌, Bool, true, false, List, None, All, AllPairs}
use Rattle.std.specs.List.{filter_map, flat_map, list_any}
use Rattle.lufs_base.specs.declared.geometry.Geometry.{Geometry}
use Rattle.volume_model.specs.declared.hand.Hand.{Hand}
use Rattle.volume_model.specs.Format.{is_body}
use Rattle.volume_model.specs.Sound.Readings.{Reading, inodes_in, used_at}
use Rattle.volume_model.specs.Sound.Claims.{is_claimed}

abbrev pub held_inodes : List Hand → List ℕ
held_inodes hands = filter_map (λ hand. hand.inode) hands

abbrev pub held_blocks : List Hand → List ℕ
held_blocks hands = flat_map (λ hand. hand.blocks) hands

-- the number is among these
abbrev pub is_among : ℕ → List ℕ → Bool
is_among n numbers = list_any (λ m. m == n) numbers

-- No inode and no block is held twice, and what is held is free in the volume: an inode that a call may make, and a body
-- block that no inode claims.
pub record AreApart (g : Geometry) (r : Reading) (hands : List Hand) : Type 0 where
  pub inodes : AllPairs (λ i j. i ≢ j) (held_inodes hands)
  pub blocks : AllPairs (λ b c. b ≢ c) (held_blocks hands)
  pub inodes_usable : All (λ i. (2 ≤ i) × (i < inodes_in r)) (held_inodes hands)
  pub inodes_free : All (λ i. used_at r i ≡ None) (held_inodes hands)
  pub blocks_body : All (λ b. is_body g b ≡ true) (held_blocks hands)
  pub blocks_free : All (λ b. is_claimed r b ≡ false) (held_blocks hands)
