-- What the blocks of a volume are for in each version. The journal takes it as given, and knows no inodes.
use Rattle.std.specs.Prelude.{ℕ, Bool, true, false}
use Rattle.journal_model.specs.Versions.{Version, Published, Sealed, Running}

-- the first bytes of the block are metadata, so many; or the block is of a file; or nothing claims it
pub data Role : Type 0 where
  Metadata : (bytes : ℕ) → Role
  FileBytes : Role
  Unclaimed : Role

-- by version and block
abbrev pub Roles : Type 0
Roles = Version → ℕ → Role

abbrev pub is_metadata : Role → Bool
is_metadata (Metadata n) = true
is_metadata FileBytes = false
is_metadata Unclaimed = false

abbrev pub is_claimed : Role → Bool
is_claimed (Metadata n) = true
is_claimed FileBytes = true
is_claimed Unclaimed = false

-- Which versions a step moves: none; running becomes the sealed one; sealed becomes the published one; or the running one
-- gets these roles.
pub data Move : Type 0 where
  Stays : Move
  Seals : Move
  Publishes : Move
  Changes : (ℕ → Role) → Move

-- the version before a move that becomes this one
abbrev pub moved_from : Move → Version → Version
moved_from Seals Sealed = Running
moved_from Publishes Published = Sealed
moved_from move v = v

-- the move gives the version no other content
abbrev pub is_carried : Move → Version → Bool
is_carried (Changes to) Running = false
is_carried move v = true

-- the roles after a move
abbrev pub moved : Move → Roles → Roles
moved (Changes to) roles Running = to
moved move roles v = roles (moved_from move v)
