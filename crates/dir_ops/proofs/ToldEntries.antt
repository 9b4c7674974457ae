-- What is known of the tree of a draft after a name was entered, where the content is told.
use Rattle.std.proofs.Common.{◌≡◌, ◌<◌, ℕ, Bool, true, false, List, Option, Some, None, Result, Ok, IfSome, OnOk, sym, subst, ◌∙◌}
use Rattle.std.specs.Option.{option_map}
use Rattle.std.proofs.lemmas.Bool.{true≢false}
use Rattle.lufs_base.specs.declared.geometry.Geometry.{Geometry}
use Rattle.volume_model.specs.declared.hand.Hand.{Hand}
use Rattle.volume_model.specs.Format.{Image, block, inodes_of, IsDinode}
use Rattle.volume_model.specs.Sound.{Tree, reading_of}
use Rattle.history_model.specs.Edits.{Enter, edited}
use Rattle.meta_store.specs.declared.change.Change.{Change}
use Rattle.meta_store.specs.declared.error.StoreError.{StoreError}
use Rattle.meta_store.specs.Changes.{changed}
use Rattle.meta_draft.specs.Drafted.{drafted_blocks}
use Rattle.draft_laws.specs.Drafts.{IsDraft}
use Rattle.dir_reads.specs.Directories.{IsDirectoryRead, IsFirst, serves}
use Rattle.dir_ops.specs.Opened.{IsEnteredAt, PutsEntry}
use Rattle.dir_ops.specs.Edits.{DrawsTree, MayEnter}
use Rattle.dir_reads.specs.declared.directory.Directory.{Directory}
use Rattle.dir_reads.specs.declared.directory.Found.{Found}
use Rattle.dir_reads.specs.declared.directory.Wanted.TheVariants.{Roomy}
use Rattle.dir_reads.proofs.StoredNumbers.{stored_numbers}
use Rattle.dir_ops.proofs.ToldEdits.{IsReadAs}
use Rattle.dir_ops.proofs.EnteredTrees.{name_edited, grown_edited}

-- of each draft of the content that is told, in which the name may be entered with these blocks
abbrev pub EntersDrafts : Option Image → Geometry → (old new : Change) → (dir : ℕ) → (name fresh : List ℕ) → (edit : Tree → Tree) → Type 0
EntersDrafts content g old new dir name fresh edit = IfSome content (λ base. (taken : ℕ → Bool) (hands after : List Hand) → IsDraft g base taken old hands
    → MayEnter g base taken old dir name fresh hands after → DrawsTree g base taken old new dir edit after)

abbrev pub IsRoomAs : Option Image → Change → (name : List ℕ) → Directory → Option Found → Type 0
IsRoomAs content change name directory found =
    IfSome (option_map (changed change) content) (λ image. IsFirst (serves Roomy name) (block image) directory.opened.numbers.items directory.opened.count found)

-- what is no directory takes no name
pub told_no_directory : (content : Option Image) (g : Geometry) (old : Change) (i : ℕ) (name fresh : List ℕ) (edit : Tree → Tree) → IsReadAs content g old i None
    → EntersDrafts content g old old i name fresh edit
told_no_directory None g old i name fresh edit read = tt
told_no_directory (Some base) g old i name fresh edit read = λ taken hands after draft may.
    absurd (true≢false (sym may.directory ∙ read (stored_numbers g (reading_of g (drafted_blocks old base)) hands i draft.stored)))

-- a directory that was opened
pub told_with : (content now : Option Image) (g h : Geometry) (old new : Change) (i : ℕ) (name fresh : List ℕ) (edit : Tree → Tree) (directory : Directory) (result : Result Unit StoreError) → now ≡ content
    → h ≡ g → IsReadAs content g old i (Some directory) → IsEnteredAt now h old new i directory name fresh edit result
    → IfSome content (λ base. (taken : ℕ → Bool) (hands after : List Hand) → IsDraft g base taken old hands → MayEnter g base taken old i name fresh hands after
    → OnOk result (DrawsTree g base taken old new i edit after))
told_with None now g h old new i name fresh edit directory result same geometry read entered = tt
told_with (Some base) now g h old new i name fresh edit directory result same geometry read entered = λ taken hands after draft may.
    let here = subst (λ (o : Option Image). IsEnteredAt o h old new i directory name fresh edit result) same entered in
    let there = subst (λ (k : Geometry). IsEnteredAt (Some base) k old new i directory name fresh edit result) geometry here in
    there taken hands after draft may (read (stored_numbers g (reading_of g (drafted_blocks old base)) hands i draft.stored))

-- in a chunk with room, or in one chunk more
pub told_entry : (content : Option Image) (g : Geometry) (old new : Change) (i ino : ℕ) (name fresh : List ℕ) (directory : Directory) (found : Option Found) → i < inodes_of g
    → IsDinode g.version directory.dinode → IsRoomAs content old name directory found → IfSome found (λ f. (f.place < directory.opened.count) × (serves Roomy name f.chunk ≡ true))
    → PutsEntry g i directory found name ino fresh old new → IsEnteredAt content g old new i directory name fresh (edited (Enter i name ino)) (Ok tt)
told_entry None g old new i ino name fresh directory found within is room first puts = tt
told_entry (Some base) g old new i ino name fresh directory None within is room first puts = λ taken hands after draft may has.
    grown_edited g base taken old hands after i directory draft within has name fresh may new ino is puts.chunk room puts.grows
told_entry (Some base) g old new i ino name fresh directory (Some found) within is room first puts = λ taken hands after draft may has.
    name_edited g base taken old hands after i directory draft within has name fresh may new found ino room first.0 first.1 puts
