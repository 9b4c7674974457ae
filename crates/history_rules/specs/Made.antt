-- What a call that makes an inode leaves of the tree.
use Rattle.std.specs.Prelude.{◌≡◌, ◌≢◌, ℕ, List, Option, Some}
use Rattle.volume_model.specs.Sound.{Node, Tree}
use Rattle.history_model.specs.Places.{lookup}
use Rattle.history_model.specs.Walk.{WalkEnd}

-- The directory names the new inode, which is this node; it gives each other name to the same inode as before, and every
-- inode but these two is as before.
pub record HasMade (old new : Tree) (p : WalkEnd) (ino : ℕ) (node : Option Node) : Type 0 where
  pub named : lookup new p.dir p.name ≡ Some ino
  pub made : new ino ≡ node
  pub names : (name : List ℕ) → name ≢ p.name → lookup new p.dir name ≡ lookup old p.dir name
  pub nodes : (i : ℕ) → i ≢ ino → i ≢ p.dir → new i ≡ old i
