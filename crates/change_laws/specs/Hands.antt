-- How often numbers are held, whatever the order and the division of the hands.
use Rattle.std.specs.Prelude.{◌≡◌, ℕ, ◌==◌, List, [], ◌∷◌, Some, None}
use Rattle.std.specs.List.{count_by}
use Rattle.volume_model.specs.declared.hand.Hand.{Hand}
use Rattle.volume_model.specs.Sound.{held_inodes, held_blocks}

-- how often a number stands among these
abbrev pub times : ℕ → List ℕ → ℕ
times n numbers = count_by (λ m. m == n) numbers

-- each number stands in both as often
abbrev pub HaveTheSame : List ℕ → List ℕ → Type 0
HaveTheSame numbers others = (n : ℕ) → times n others ≡ times n numbers

-- both hold the same blocks and inodes
pub record HoldTheSame (hands others : List Hand) : Type 0 where
  pub blocks : HaveTheSame (held_blocks hands) (held_blocks others)
  pub inodes : HaveTheSame (held_inodes hands) (held_inodes others)

-- a hand with just this block, and one with just this inode
abbrev pub one_block : ℕ → Hand
one_block b = record { inode = None; blocks = b ∷ [] }

abbrev pub one_inode : ℕ → Hand
one_inode i = record { inode = Some i; blocks = [] }
