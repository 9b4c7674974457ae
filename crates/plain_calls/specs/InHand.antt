-- What a call has in its hand between being asked and being planned.
use Rattle.std.specs.Prelude.{◌≡◌, ◌≤◌, ℕ, ◌==◌, Bool, false, ◌&&◌, List, [], ◌∷◌, length, IfSome, is_some}
use Rattle.lufs_base.specs.declared.geometry.Geometry.{Geometry}
use Rattle.volume_model.specs.declared.hand.Hand.{Hand}
use Rattle.volume_model.specs.Format.{block}
use Rattle.volume_model.specs.Sound.{Tree, free_inodes_of, free_blocks_of, StandsFor}
use Rattle.history_model.specs.Histories.{IsUsable}
use Rattle.meta_store.specs.Store.{StoreTold}
use Rattle.meta_store.specs.Changing.{AllTold}
use Rattle.block_alloc.specs.Marking.{IsInTransaction}

-- the content that is told stands for this tree while these are held
abbrev pub Stands : StoreTold → Tree → List Hand → Type 0
Stands told tree hands = IfSome told.content (λ image. StandsFor told.geometry (block image) tree hands)

-- The tree has an inode free, where one is wanted, and so many blocks.
pub record HasEnough (g : Geometry) (tree : Tree) (is_inode_wanted : Bool) (blocks_wanted : ℕ) : Type 0 where
  pub inodes : (is_inode_wanted && free_inodes_of g tree == 0) ≡ false
  pub blocks : blocks_wanted ≤ free_blocks_of g tree

-- The hand has an inode, which a call may make, just where one is wanted, and so many blocks. It was taken in the running
-- transaction, and nothing else is held.
pub record HasHand (is_inode_wanted : Bool) (blocks_wanted : ℕ) (tree : Tree) (hand : Hand) (told : AllTold) : Type 0 where
  pub stands : Stands told.read tree (hand ∷ [])
  pub holds : IsInTransaction hand told
  pub inode : is_some hand.inode ≡ is_inode_wanted
  pub blocks : length hand.blocks ≡ blocks_wanted
  pub usable : IfSome hand.inode (IsUsable told.read.geometry tree)
