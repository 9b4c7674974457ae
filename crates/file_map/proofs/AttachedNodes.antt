-- What was drawn of a file with the attributes and the links of its record is drawn with those that it has.
use Rattle.std.proofs.Common.{◌≡◌, ◌<◌, ◌≤◌, ℕ, Bool, if◌then◌else◌, List, [], ◌∷◌, Option, Some, sym, ap, subst, ◌∙◌}
use Rattle.std.specs.Prelude.{nat_le, slice_set}
use Rattle.std.proofs.lemmas.Bool.{lt-leb, le-leb}
use Rattle.lufs_base.specs.declared.geometry.Geometry.{Geometry}
use Rattle.volume_model.specs.declared.hand.Hand.{Hand}
use Rattle.volume_model.specs.Format.{Image}
use Rattle.volume_model.specs.Sound.{Attributes, FileNode, File, PointerName, Single}
use Rattle.volume_laws.specs.Changes.{with_block}
use Rattle.meta_store.specs.declared.change.Change.{Change}
use Rattle.draft_laws.specs.Drafts.{Draws}
use Rattle.file_map.specs.Attached.{with_block_at}

pub drawn_as : (g : Geometry) (base : Image) (taken : ℕ → Bool) (old new : Change) (i : ℕ) (file other : FileNode) (links more : Option ℕ) (after : List Hand) → file ≡ other → links ≡ more
    → Draws g base taken old new i (Some (File file)) links after → Draws g base taken old new i (Some (File other)) more after
drawn_as g base taken old new i file other links more after same its draws =
    subst (λ (l : Option ℕ). Draws g base taken old new i (Some (File other)) l after) its
    (subst (λ (f : FileNode). Draws g base taken old new i (Some (File f)) links after) same draws)

pub block_as : (file : FileNode) (index : ℕ) (bytes : List ℕ) (a : Attributes) → a ≡ file.attributes → (if nat_le 12 index then Single ∷ [] else file.pointers) ≡ file.pointers
    → with_block (record file { attributes = a }) index (Some bytes) ≡ with_block_at file index bytes
block_as file index bytes a same pointers t = record {
  attributes = same t;
  size = file.size;
  blocks = slice_set file.blocks index (Some bytes);
  pointers = sym pointers t;
}

pub low_pointers : (index : ℕ) (pointers : List PointerName) → index < 12 → (if nat_le 12 index then Single ∷ [] else pointers) ≡ pointers
low_pointers index pointers low = ap (λ (t : Bool). if t then Single ∷ [] else pointers) (lt-leb 12 index low)

pub high_pointers : (index : ℕ) (pointers : List PointerName) → 12 ≤ index → pointers ≡ Single ∷ [] → (if nat_le 12 index then Single ∷ [] else pointers) ≡ pointers
high_pointers index pointers high is = ap (λ (t : Bool). if t then Single ∷ [] else pointers) (le-leb 12 index high) ∙ sym is
