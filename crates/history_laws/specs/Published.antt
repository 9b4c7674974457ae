-- For which trees the versions of a journal stand.
use Rattle.std.specs.Prelude.{◌≡◌, ◌≤◌, ℕ, List, Option, Some, None}
use Rattle.lufs_base.specs.declared.geometry.Geometry.{Geometry}
use Rattle.tree_types.specs.declared.history.Entry.{Entry}
use Rattle.volume_model.specs.Format.{Image, block}
use Rattle.volume_model.specs.Sound.{Reading, reading_of, metadata_length, Tree, shape_of, HasShape}
use Rattle.history_model.specs.Histories.{History, replay_of}
use Rattle.history_model.specs.CrashSafety.{IsBoundary}
use Rattle.journal_model.specs.Journals.{SealedTx, Journal}
use Rattle.journal_model.specs.Versions.{Version, Published, Sealed, content_of}
use Rattle.journal_model.specs.BlockRoles.{Role, Metadata, FileBytes, Roles}
use Rattle.history_laws.specs.Named.{named_block}
use Rattle.history_laws.specs.KeptBytes.{BeganBefore}

-- Where metadata is read of a block, it is metadata up to there at least. A block that a file names is of a file.
pub record AreRolesOf (g : Geometry) (role : ℕ → Role) (r : Reading) : Type 0 where
  pub metadata : (b : ℕ) → 1 ≤ metadata_length g r b → (n : ℕ) × (role b ≡ Metadata n) × (metadata_length g r b ≤ n)
  pub files : (ino index b : ℕ) → named_block r ino index ≡ Some b → role b ≡ FileBytes

-- what the records of a version say, over what stands at home
abbrev pub reading_in : Geometry → Journal → Image → Version → Reading
reading_in g j home v = reading_of g (block (content_of g j v home))

-- The version is sound while nothing is held, its tree has this shape, and its blocks have the roles of what is read of it.
pub record IsVersionOf (g : Geometry) (roles : Roles) (home : Image) (j : Journal) (v : Version) (shape : Tree) : Type 0 where
  pub content : HasShape g (content_of g j v home) shape
  pub read : AreRolesOf g (roles v) (reading_in g j home v)

-- The published and the sealed version stand for the trees of the entries that they hold, as far as their shapes go. Each
-- holds those up to a boundary.
pub record IsPublishedAs (g : Geometry) (moment : ℕ) (opening : Tree) (h : History) (roles : Roles) (home : Image) (j : Journal) (held : Version → ℕ) : Type 0 where
  pub published : IsVersionOf g roles home j Published (shape_of (replay_of g moment opening h.entries (held Published)))
  pub sealed : IsVersionOf g roles home j Sealed (shape_of (replay_of g moment opening h.entries (held Sealed)))
  pub published_boundary : IsBoundary h (held Published)
  pub sealed_boundary : IsBoundary h (held Sealed)

-- Where nothing is sealed, the sealed version holds what is published. Once a sector of the sealed transaction is written,
-- each entry that it holds began before now.
abbrev pub IsSealedBefore : List Entry → (n : ℕ) → (held : Version → ℕ) → Option SealedTx → Type 0
IsSealedBefore entries n held None = held Sealed ≤ held Published
IsSealedBefore entries n held (Some s) = 1 ≤ s.written → BeganBefore entries (held Sealed) n
