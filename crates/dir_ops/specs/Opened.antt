-- What the changing calls do where a directory was opened.
use Rattle.std.specs.Prelude.{◌<◌, ℕ, Bool, List, Option, Some, None, IfSome, Result, OnOk}
use Rattle.lufs_base.specs.declared.geometry.Geometry.{Geometry}
use Rattle.volume_model.specs.declared.hand.Hand.{Hand}
use Rattle.volume_model.specs.Format.{Image, inodes_of, IsChunk, one_slot}
use Rattle.volume_model.specs.Sound.{Tree}
use Rattle.meta_store.specs.declared.change.Change.{Change}
use Rattle.meta_store.specs.declared.error.StoreError.{StoreError}
use Rattle.meta_draft.specs.Drafted.{drafted_blocks}
use Rattle.draft_laws.specs.Drafts.{IsDraft}
use Rattle.dir_reads.specs.Directories.{HasDirectory}
use Rattle.dir_reads.specs.declared.directory.Directory.{Directory}
use Rattle.dir_reads.specs.declared.directory.Found.{Found}
use Rattle.dir_ops.specs.Edits.{DrawsTree, MayEnter}
use Rattle.dir_ops.specs.Growth.{Grows}
use Rattle.dir_ops.specs.Slots.{PutsName}

-- Where the content is told, the old change is a draft of it, and the directory is inode i of its tree, that was edited at Ok.
abbrev pub IsEditedAt : Option Image → Geometry → (old new : Change) → Directory → (edit : ℕ → Tree → Tree) → Result Unit StoreError → Type 0
IsEditedAt content g old new directory edit result = IfSome content (λ base. (i : ℕ) (taken : ℕ → Bool) (hands : List Hand) → IsDraft g base taken old hands → i < inodes_of g
    → HasDirectory g (drafted_blocks old base) i directory → OnOk result (DrawsTree g base taken old new i (edit i) hands))

-- The same of a name that may be entered in it with these blocks, with the hands after.
abbrev pub IsEnteredAt : Option Image → Geometry → (old new : Change) → (i : ℕ) → Directory → (name fresh : List ℕ) → (edit : Tree → Tree) → Result Unit StoreError → Type 0
IsEnteredAt content g old new i directory name fresh edit result = IfSome content (λ base. (taken : ℕ → Bool) (hands after : List Hand) → IsDraft g base taken old hands
    → MayEnter g base taken old i name fresh hands after → HasDirectory g (drafted_blocks old base) i directory → OnOk result (DrawsTree g base taken old new i edit after))

-- The change has one chunk more of the directory, in which the name stands alone.
pub record GrowsByName (g : Geometry) (i : ℕ) (directory : Directory) (name : List ℕ) (ino : ℕ) (fresh : List ℕ) (old new : Change) : Type 0 where
  pub chunk : IsChunk (one_slot name ino)
  pub grows : Grows g i directory (one_slot name ino) fresh old new

-- The change has the name, in the chunk that was found or in one chunk more.
abbrev pub PutsEntry : Geometry → (i : ℕ) → Directory → Option Found → (name : List ℕ) → (ino : ℕ) → (fresh : List ℕ) → (old new : Change) → Type 0
PutsEntry g i directory None name ino fresh old new = GrowsByName g i directory name ino fresh old new
PutsEntry g i directory (Some found) name ino fresh old new = PutsName directory found name ino old new
