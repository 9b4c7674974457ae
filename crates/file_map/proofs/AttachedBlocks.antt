-- A file has a block at an index, or a pointer block, by what was put for the record that was read.
use Rattle.std.proofs.Common.{◌≡◌, ◌<◌, inl, inr, ℕ, ◌+◌, ◌-◌, ◌^◌, Bool, List, [], ◌∷◌, take, Option, Some, None, IfSome, sym, ap, subst, ◌∙◌, arith}
use Rattle.std.specs.Option.{option_map}
use Rattle.std.proofs.lemmas.Bool.{cases_lt}
use Rattle.lufs_base.specs.declared.geometry.Geometry.{Geometry}
use Rattle.volume_model.specs.declared.hand.Hand.{Hand}
use Rattle.volume_model.specs.declared.inode.Dinode.{Dinode}
use Rattle.volume_model.specs.Format.{Image, block, IsDinode}
use Rattle.volume_model.specs.Sound.{Single, used_inode, reading_of, used_at, size_in_blocks, FileNode, File}
use Rattle.change_laws.proofs.FilePlaces.{file_fits}
use Rattle.meta_store.specs.declared.change.Change.{Change}
use Rattle.meta_store.specs.Changes.{changed}
use Rattle.meta_draft.specs.Drafted.{drafted_blocks}
use Rattle.draft_laws.specs.Drafts.{IsDraft, Draws, links_at}
use Rattle.file_map.specs.Attached.{with_block_put, with_entry_put, with_pointers_put, PutsBlock, with_block_at, HasPlaceFor, LacksPointers}
use Rattle.file_map.proofs.OpenedFiles.{IsOpened, opened, no_file}
use Rattle.file_map.proofs.AttachedNumbers.{some_number}
use Rattle.file_map.proofs.AttachedDirect.{direct_attached}
use Rattle.file_map.proofs.AttachedEntry.{entry_attached}
use Rattle.file_map.proofs.AttachedPointers.{pointers_attached}

-- a change that is drawn as another one
pub change_as : (g : Geometry) (base : Image) (taken : ℕ → Bool) (old new other : Change) (i : ℕ) (file : FileNode) (links : Option ℕ) (after : List Hand) → other ≡ new
    → Draws g base taken old new i (Some (File file)) links after → Draws g base taken old other i (Some (File file)) links after
change_as g base taken old new other i file links after is draws = subst (λ (c : Change). Draws g base taken old c i (Some (File file)) links after) (sym is) draws

pub block_attached : (g : Geometry) (base : Image) (taken : ℕ → Bool) (old new : Change) (hands after : List Hand) (i index b : ℕ) (d : Dinode) (file : FileNode) → IsDraft g base taken old hands
    → IsOpened g (drafted_blocks old base) hands i d file → HasPlaceFor g base taken old i index b hands after file → b < 2 ^ 32 → PutsBlock g old new i d index b
    → Draws g base taken old new i (Some (File (with_block_at file index (take 4096 (drafted_blocks old base b))))) (links_at g (drafted_blocks old base) i) after
block_attached g base taken old new hands after i index b d file draft opened place small puts = elim (cases_lt index 12) [
  | inl low ↦
      change_as g base taken old (with_block_put g old i d index b) new i (with_block_at file index (take 4096 (drafted_blocks old base b))) (links_at g (drafted_blocks old base) i) after
      (puts.direct low) (direct_attached g base taken old hands after i index b d file draft opened place small low)
  | inr high ↦
      let entry = index - 12 in
      let at : index ≡ 12 + entry = omega (arith, high) in
      let below : index < size_in_blocks d.size = subst (λ (n : ℕ). index < size_in_blocks n) (ap (λ (f : FileNode). f.size) opened.is.same) place.below in
      let few : entry < 1024 = omega (arith, below, file_fits g d opened.is.is opened.fields.size, high) in
      let some = some_number (drafted_blocks old base) d file opened.is.same (place.pointers high) in
      let there = subst (λ (n : ℕ). HasPlaceFor g base taken old i n b hands after file) at place in
      subst (λ (n : ℕ). Draws g base taken old new i (Some (File (with_block_at file n (take 4096 (drafted_blocks old base b))))) (links_at g (drafted_blocks old base) i) after) (sym at)
      (change_as g base taken old (with_entry_put g old i d entry b) new i (with_block_at file (12 + entry) (take 4096 (drafted_blocks old base b))) (links_at g (drafted_blocks old base) i) after
      (puts.by_pointer entry at few some) (entry_attached g base taken old hands after i entry b d file draft opened there))
]

-- what was found is in use
pub used_as : (g : Geometry) (base : Image) (old : Change) (i : ℕ) (found : Option Dinode) (d : Dinode) → found ≡ Some d
    → option_map (used_inode (drafted_blocks old base)) found ≡ used_at (reading_of g (drafted_blocks old base)) i
    → used_at (reading_of g (drafted_blocks old base)) i ≡ Some (used_inode (drafted_blocks old base) d)
used_as g base old i found d is read = sym read ∙ ap (option_map (used_inode (drafted_blocks old base))) is

-- what was read of inode i where the content is told
abbrev pub IsFound : Option Image → Geometry → Change → (i : ℕ) → Option Dinode → Type 0
IsFound content g old i found = IfSome (option_map (changed old) content) (λ image. option_map (used_inode (block image)) found ≡ used_at (reading_of g (block image)) i)

abbrev pub BlockTold : Option Image → Geometry → (old new : Change) → (i index b : ℕ) → Type 0
BlockTold content g old new i index b =
    IfSome content (λ base. (taken : ℕ → Bool) (hands after : List Hand) (file : FileNode) → IsDraft g base taken old hands → HasPlaceFor g base taken old i index b hands after file
    → Draws g base taken old new i (Some (File (with_block_at file index (take 4096 (drafted_blocks old base b))))) (links_at g (drafted_blocks old base) i) after)

abbrev pub PointersTold : Option Image → Geometry → (old new : Change) → (i p : ℕ) → Type 0
PointersTold content g old new i p =
    IfSome content (λ base. (taken : ℕ → Bool) (hands after : List Hand) (file : FileNode) → IsDraft g base taken old hands → LacksPointers g base taken old i p hands after file
    → Draws g base taken old new i (Some (File (record file { pointers = Single ∷ [] }))) (links_at g (drafted_blocks old base) i) after)

pub block_told : (content : Option Image) (g : Geometry) (old new : Change) (i index b : ℕ) (found : Option Dinode) (d : Dinode) → found ≡ Some d → IsDinode g.version d → b < 2 ^ 32
    → PutsBlock g old new i d index b → IsFound content g old i found → BlockTold content g old new i index b
block_told None g old new i index b found d is dinode small puts read = tt
block_told (Some base) g old new i index b found d is dinode small puts read = λ taken hands after file draft place.
    block_attached g base taken old new hands after i index b d file draft
    (opened g base taken old hands i d file draft dinode (used_as g base old i found d is read) place.stands) place small puts

pub no_block_told : (content : Option Image) (g : Geometry) (old new : Change) (i index b : ℕ) (found : Option Dinode) → found ≡ None → IsFound content g old i found
    → BlockTold content g old new i index b
no_block_told None g old new i index b found none read = tt
no_block_told (Some base) g old new i index b found none read = λ taken hands after file draft place.
    absurd (no_file g (drafted_blocks old base) i file (sym (ap (option_map (used_inode (drafted_blocks old base))) none) ∙ read) place.stands)

pub pointers_told : (content : Option Image) (g : Geometry) (old new : Change) (i p : ℕ) (found : Option Dinode) (d : Dinode) → found ≡ Some d → IsDinode g.version d → p < 2 ^ 32
    → new ≡ with_pointers_put g old i d p → IsFound content g old i found → PointersTold content g old new i p
pointers_told None g old new i p found d is dinode small put read = tt
pointers_told (Some base) g old new i p found d is dinode small put read = λ taken hands after file draft lacks.
    change_as g base taken old (with_pointers_put g old i d p) new i (record file { pointers = Single ∷ [] }) (links_at g (drafted_blocks old base) i) after put
    (pointers_attached g base taken old hands after i p d file draft
    (opened g base taken old hands i d file draft dinode (used_as g base old i found d is read) lacks.stands) lacks small)

pub no_pointers_told : (content : Option Image) (g : Geometry) (old new : Change) (i p : ℕ) (found : Option Dinode) → found ≡ None → IsFound content g old i found
    → PointersTold content g old new i p
no_pointers_told None g old new i p found none read = tt
no_pointers_told (Some base) g old new i p found none read = λ taken hands after file draft lacks.
    absurd (no_file g (drafted_blocks old base) i file (sym (ap (option_map (used_inode (drafted_blocks old base))) none) ∙ read) lacks.stands)
