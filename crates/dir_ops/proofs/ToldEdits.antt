-- What is known of the tree of a draft after a slot of a directory was changed, where the content is told.
use Rattle.std.proofs.Common.{◌≡◌, ◌<◌, ℕ, Bool, true, false, List, Option, Some, None, Result, Ok, IfSome, OnOk, sym, subst}
use Rattle.std.specs.Option.{option_map}
use Rattle.lufs_base.specs.declared.geometry.Geometry.{Geometry}
use Rattle.volume_model.specs.declared.hand.Hand.{Hand}
use Rattle.volume_model.specs.Format.{Image, block, inodes_of}
use Rattle.volume_model.specs.Sound.{Tree, reading_of}
use Rattle.history_model.specs.Edits.{changed_in}
use Rattle.meta_store.specs.declared.change.Change.{Change}
use Rattle.meta_store.specs.declared.error.StoreError.{StoreError}
use Rattle.meta_store.specs.Changes.{changed}
use Rattle.meta_draft.specs.Drafted.{drafted_blocks}
use Rattle.draft_laws.specs.Drafts.{IsDraft}
use Rattle.dir_reads.specs.Directories.{IsDirectoryRead, IsFirst, serves}
use Rattle.dir_ops.specs.Opened.{IsEditedAt}
use Rattle.dir_ops.specs.Slots.{PutsSlot}
use Rattle.dir_ops.specs.Edits.{DrawsTree, slot_changed, with_slot_changed}
use Rattle.dir_reads.specs.declared.directory.Directory.{Directory}
use Rattle.dir_reads.specs.declared.directory.Found.{Found}
use Rattle.dir_reads.specs.declared.directory.Wanted.TheVariants.{Named}
use Rattle.dir_reads.proofs.StoredNumbers.{stored_numbers}
use Rattle.dir_ops.proofs.EditedTrees.{same_tree, no_directory_same, none_edited, slot_edited}

-- of each draft of the content that is told
abbrev pub EditsDrafts : Option Image → Geometry → (old new : Change) → (i : ℕ) → (edit : Tree → Tree) → Type 0
EditsDrafts content g old new i edit = IfSome content (λ base. (taken : ℕ → Bool) (hands : List Hand) → IsDraft g base taken old hands → DrawsTree g base taken old new i edit hands)

-- what is read of the content with the change
abbrev pub IsReadAs : Option Image → Geometry → Change → (i : ℕ) → Option Directory → Type 0
IsReadAs content g change i found = IfSome (option_map (changed change) content) (λ image. IsDirectoryRead g (block image) i found)

abbrev pub IsFoundAs : Option Image → Change → (name : List ℕ) → Directory → Option Found → Type 0
IsFoundAs content change name directory found =
    IfSome (option_map (changed change) content) (λ image. IsFirst (serves Named name) (block image) directory.opened.numbers.items directory.opened.count found)

-- no directory
pub told_none : (content : Option Image) (g : Geometry) (old : Change) (i : ℕ) (name : List ℕ) (to : Option ℕ) → IsReadAs content g old i None → EditsDrafts content g old old i (with_slot_changed i name to)
told_none None g old i name to read = tt
told_none (Some base) g old i name to read = λ taken hands draft.
    let blocks = drafted_blocks old base in
    same_tree g base taken old hands i (with_slot_changed i name to) draft
    (no_directory_same i (λ chunks. changed_in (slot_changed to) chunks name) _ (read (stored_numbers g (reading_of g blocks) hands i draft.stored)))

-- a directory that was opened
pub told_opened : (content now : Option Image) (g h : Geometry) (old new : Change) (i : ℕ) (edit : ℕ → Tree → Tree) (directory : Directory) (result : Result Unit StoreError) → i < inodes_of g → now ≡ content
    → h ≡ g → IsReadAs content g old i (Some directory) → IsEditedAt now h old new directory edit result
    → IfSome content (λ base. (taken : ℕ → Bool) (hands : List Hand) → IsDraft g base taken old hands → OnOk result (DrawsTree g base taken old new i (edit i) hands))
told_opened None now g h old new i edit directory result within same geometry read edited = tt
told_opened (Some base) now g h old new i edit directory result within same geometry read edited = λ taken hands draft.
    let here = subst (λ (o : Option Image). IsEditedAt o h old new directory edit result) same edited in
    let there = subst (λ (k : Geometry). IsEditedAt (Some base) k old new directory edit result) geometry here in
    there i taken hands draft within (read (stored_numbers g (reading_of g (drafted_blocks old base)) hands i draft.stored))

-- no slot with the name
pub told_unnamed : (content : Option Image) (g : Geometry) (old : Change) (name : List ℕ) (to : Option ℕ) (directory : Directory) → IsFoundAs content old name directory None
    → IsEditedAt content g old old directory (λ i. with_slot_changed i name to) (Ok tt)
told_unnamed None g old name to directory none = tt
told_unnamed (Some base) g old name to directory none = λ i taken hands draft within has. none_edited g base taken old hands i directory draft within has name to none

-- a slot with the name
pub told_slot : (content : Option Image) (g : Geometry) (old new : Change) (name : List ℕ) (to : Option ℕ) (directory : Directory) (found : Found) → IsFoundAs content old name directory (Some found)
    → found.place < directory.opened.count → serves Named name found.chunk ≡ true → PutsSlot directory found name to old new
    → IsEditedAt content g old new directory (λ i. with_slot_changed i name to) (Ok tt)
told_slot None g old new name to directory found first below serving puts = tt
told_slot (Some base) g old new name to directory found first below serving puts = λ i taken hands draft within has.
    slot_edited g base taken old hands i directory draft within has new found name to first below serving puts
