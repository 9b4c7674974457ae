-- The change that a call is making, between two of its steps.
use Rattle.std.specs.Prelude.{◌≡◌, ◌<◌, ◌≤◌, ◌≢◌, ℕ, ◌*◌, ◌/◌, ◌==◌, Bool, true, false, ◌&&◌, List, Option, IfSome, All, option_map}
use Rattle.std.specs.List.{list_any}
use Rattle.lufs_base.specs.Layout.{IsGeometry, blocks_of}
use Rattle.lufs_base.specs.declared.geometry.Geometry.{Geometry}
use Rattle.volume_model.specs.declared.hand.Hand.{Hand}
use Rattle.volume_model.specs.Format.{Image, Blocks, sectors_of, block, inodes_of}
use Rattle.volume_model.specs.Log.{AreLoggable, is_cancel}
use Rattle.volume_model.specs.Sound.{Reading, reading_of, used_at, is_claimed, held_blocks, IsStored, names_in_tree, links_to, Node, Tree, with_node, tree_of}
use Rattle.meta_store.specs.declared.change.Change.{Change}
use Rattle.meta_store.specs.Changes.{frees_metadata}
use Rattle.meta_store.specs.Conditions.{IsInBlock}
use Rattle.meta_draft.specs.Drafted.{drafted_blocks}
use Rattle.draft_laws.specs.Follows.{is_loose, FollowsSoFar}

-- The deltas of the change may be logged, the blocks cancelled are those freed that held metadata, and raw writes lie in
-- body blocks.
pub record IsRecorded (g : Geometry) (change : Change) : Type 0 where
  pub deltas : AreLoggable g change.deltas
  pub cancels : (b : ℕ) → list_any (λ d. is_cancel d.kind && d.home / 4096 == b) change.deltas ≡ frees_metadata change b
  pub raw : All (IsInBlock g) change.raw

-- The change may be made so far to a content that was stored right, in a transaction that took the blocks of the test. With
-- it the content is stored right while these are held; its links may be wrong, and its tree.
pub record IsDraft (g : Geometry) (base : Image) (taken : ℕ → Bool) (change : Change) (hands : List Hand) : Type 0 where
  pub geometry : IsGeometry g
  pub room : 8 * blocks_of g ≤ sectors_of base
  -- what was held when the call began
  pub start : List Hand
  pub began : IsStored g (reading_of g (block base)) start
  pub recorded : IsRecorded g change
  pub stored : IsStored g (reading_of g (drafted_blocks change base)) hands
  pub follows : FollowsSoFar g change taken (is_loose (reading_of g (block base)) hands)
      (reading_of g (block base)) (reading_of g (drafted_blocks change base))

-- the number of links in the record of inode i, if it is in use
abbrev pub links_at : Geometry → Blocks → (i : ℕ) → Option ℕ
links_at g blocks i = option_map (λ u. u.inode.links) (used_at (reading_of g blocks) i)

-- the links in the records are those of the names of a tree
abbrev pub HaveLinksOf : Geometry → Blocks → Tree → Type 0
HaveLinksOf g blocks tree =
    (i : ℕ) → i < inodes_of g → IfSome (links_at g blocks i) (λ links. (1 ≤ links) × (links ≤ 32767) × (links ≡ links_to (inodes_of g) (names_in_tree tree) i))

-- From one draft to the next, inode i has this node and this number of links now, or none, and the hands become others. All
-- other inodes are what they were.
pub record Draws (g : Geometry) (base : Image) (taken : ℕ → Bool) (old new : Change) (i : ℕ) (node : Option Node) (links : Option ℕ) (after : List Hand) : Type 0 where
  pub draft : IsDraft g base taken new after
  pub tree : tree_of g (drafted_blocks new base) ≡ with_node (tree_of g (drafted_blocks old base)) i node
  pub own_links : links_at g (drafted_blocks new base) i ≡ links
  pub others : (k : ℕ) → k ≢ i → used_at (reading_of g (drafted_blocks new base)) k ≡ used_at (reading_of g (drafted_blocks old base)) k

-- A block of a hand that may come to hold metadata: the running transaction took it, it wasn't claimed before, and no raw
-- write of the change lies in it.
pub record MayAttach (g : Geometry) (base : Image) (taken : ℕ → Bool) (change : Change) (b : ℕ) : Type 0 where
  pub in_transaction : taken b ≡ true
  pub unclaimed : is_claimed (reading_of g (block base)) b ≡ false
  pub unwritten : All (λ w. w.first / 8 ≢ b) change.raw

-- A block of a hand that may come to hold bytes of a file: the running transaction took it, and it wasn't claimed before.
pub record IsNewBlock (g : Geometry) (base : Image) (taken : ℕ → Bool) (b : ℕ) : Type 0 where
  pub in_transaction : taken b ≡ true
  pub unclaimed : is_claimed (reading_of g (block base)) b ≡ false

-- no held block was claimed before
abbrev pub HoldsNoneOf : Reading → List Hand → Type 0
HoldsNoneOf before hands = All (λ b. is_claimed before b ≡ false) (held_blocks hands)
