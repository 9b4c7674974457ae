-- An inode that got a name and has a link more in its record.
use Rattle.std.specs.Prelude.{◌≡◌, ◌≢◌, ◌+◌, ◌<◌, ℕ, Bool, List, option_map, IfSome, Result, OnOk}
use Rattle.lufs_base.specs.declared.geometry.Geometry.{Geometry}
use Rattle.volume_model.specs.declared.hand.Hand.{Hand}
use Rattle.volume_model.specs.Format.{Image}
use Rattle.volume_model.specs.Sound.{reading_of, used_at, tree_of}
use Rattle.meta_store.specs.declared.change.Change.{Change}
use Rattle.meta_store.specs.declared.error.StoreError.{StoreError}
use Rattle.meta_store.specs.Store.{StoreTold}
use Rattle.meta_draft.specs.Drafted.{drafted_blocks}
use Rattle.draft_laws.specs.Drafts.{IsDraft, links_at}

-- From one draft to the next the record of inode i has a link more, if it is in use. The tree, all other inodes, and the hands
-- are what they were.
pub record HasLinkMore (g : Geometry) (base : Image) (taken : ℕ → Bool) (old new : Change) (i : ℕ) (hands : List Hand) : Type 0 where
  pub draft : IsDraft g base taken new hands
  pub tree : tree_of g (drafted_blocks new base) ≡ tree_of g (drafted_blocks old base)
  pub own_links : links_at g (drafted_blocks new base) i ≡ option_map (λ links. links + 1) (links_at g (drafted_blocks old base) i)
  pub others : (k : ℕ) → k ≢ i → used_at (reading_of g (drafted_blocks new base)) k ≡ used_at (reading_of g (drafted_blocks old base)) k

-- Where the content is told and the old change is a draft of it in which the record has room for a link, the new one has a
-- link more at Ok.
abbrev pub GainsLink : StoreTold → (old new : Change) → (i : ℕ) → Result Unit StoreError → Type 0
GainsLink told old new i result = IfSome told.content (λ base. (taken : ℕ → Bool) (hands : List Hand) → IsDraft told.geometry base taken old hands
    → IfSome (links_at told.geometry (drafted_blocks old base) i) (λ links. links + 1 < 65536) → OnOk result (HasLinkMore told.geometry base taken old new i hands))
