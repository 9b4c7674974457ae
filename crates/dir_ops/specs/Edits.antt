-- What the changing calls do to the tree of a draft.
use Rattle.std.specs.Prelude.{◌≡◌, ◌≢◌, ℕ, Bool, true, false, List, [], length, All, Option, Some, None, IfSome, Result, OnOk}
use Rattle.lufs_base.specs.declared.geometry.Geometry.{Geometry}
use Rattle.lufs_base.specs.declared.numbers.BlockNo.{BlockNo}
use Rattle.volume_model.specs.declared.hand.Hand.{Hand}
use Rattle.volume_model.specs.declared.directory.Slot.{Slot}
use Rattle.volume_model.specs.Format.{Image, with_ino, without_slot}
use Rattle.volume_model.specs.Sound.{reading_of, used_at, Tree, tree_of}
use Rattle.history_model.specs.Edits.{changed_in, on_chunks, on_node}
use Rattle.history_model.specs.Places.{is_directory_in}
use Rattle.history_model.specs.Refusals.{cannot_grow}
use Rattle.history_model.specs.Wants.{blocks_for_name}
use Rattle.change_laws.specs.Plans.{HoldMore}
use Rattle.meta_store.specs.declared.change.Change.{Change}
use Rattle.meta_store.specs.declared.error.StoreError.{StoreError}
use Rattle.meta_store.specs.Changes.{numbers_in}
use Rattle.meta_store.specs.Store.{StoreTold}
use Rattle.meta_draft.specs.Drafted.{drafted_blocks}
use Rattle.draft_laws.specs.Drafts.{IsDraft, MayAttach, links_at}

-- The new change is a draft too, with these hands. Its tree is the edited one, and each inode has the links that it had. All
-- inodes but the directory are what they were.
pub record DrawsTree (g : Geometry) (base : Image) (taken : ℕ → Bool) (old new : Change) (dir : ℕ) (edit : Tree → Tree) (after : List Hand) : Type 0 where
  pub draft : IsDraft g base taken new after
  pub tree : tree_of g (drafted_blocks new base) ≡ edit (tree_of g (drafted_blocks old base))
  pub links : (k : ℕ) → links_at g (drafted_blocks new base) k ≡ links_at g (drafted_blocks old base) k
  pub others : (k : ℕ) → k ≢ dir → used_at (reading_of g (drafted_blocks new base)) k ≡ used_at (reading_of g (drafted_blocks old base)) k

-- From one change to the next only deltas are others.
pub record PutsDeltas (old new : Change) : Type 0 where
  pub taken : new.taken ≡ old.taken
  pub freed : new.freed ≡ old.freed
  pub raw : new.raw ≡ old.raw

-- Where the content is told and the old change is a draft of it, its tree was edited at Ok, with the same hands.
abbrev pub IsEdited : StoreTold → (old new : Change) → (dir : ℕ) → (edit : Tree → Tree) → Result Unit StoreError → Type 0
IsEdited told old new dir edit result = IfSome told.content (λ base. (taken : ℕ → Bool) (hands : List Hand) → IsDraft told.geometry base taken old hands
    → OnOk result (DrawsTree told.geometry base taken old new dir edit hands))

-- A name may be entered in directory `dir` of the tree of a draft with these blocks of the hands, which are as many as are
-- wanted. The hands after hold all the others.
pub record MayEnter (g : Geometry) (base : Image) (taken : ℕ → Bool) (change : Change) (dir : ℕ) (name : List ℕ) (fresh : List ℕ) (hands after : List Hand) : Type 0 where
  pub directory : is_directory_in (tree_of g (drafted_blocks change base)) dir ≡ true
  pub grows : cannot_grow (tree_of g (drafted_blocks change base)) dir name ≡ false
  pub wanted : length fresh ≡ blocks_for_name (tree_of g (drafted_blocks change base)) dir name
  pub held : HoldMore hands after [] fresh
  pub attach : All (MayAttach g base taken change) fresh

-- Where the content is told, the old change is a draft of it, and the name may be entered with these blocks, its tree was
-- edited at Ok, with the hands after.
abbrev pub IsEntered : StoreTold → (old new : Change) → (dir : ℕ) → (name : List ℕ) → (fresh : List BlockNo) → (edit : Tree → Tree) → Result Unit StoreError → Type 0
IsEntered told old new dir name fresh edit result = IfSome told.content (λ base. (taken : ℕ → Bool) (hands after : List Hand) → IsDraft told.geometry base taken old hands
    → MayEnter told.geometry base taken old dir name (numbers_in fresh) hands after → OnOk result (DrawsTree told.geometry base taken old new dir edit after))

-- the slots of a chunk with the slot at this place naming another inode, or without it
abbrev pub slot_changed : (to : Option ℕ) → List Slot → (place : ℕ) → List Slot
slot_changed (Some i) slots place = with_ino slots place i
slot_changed None slots place = without_slot slots place

-- the tree in which the first slot of directory `dir` with this name is changed so
abbrev pub with_slot_changed : (dir : ℕ) → (name : List ℕ) → (to : Option ℕ) → Tree → Tree
with_slot_changed dir name to tree = on_node dir (on_chunks (λ chunks. changed_in (slot_changed to) chunks name)) tree
