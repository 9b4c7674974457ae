-- Changes of small journals: a directory is made with block 38, and it is removed.
use Rattle.std.specs.Prelude.{ℕ, ◌+◌, ◌==◌, Bool, if◌then◌else◌, [], ◌∷◌}
use Rattle.journal_model.specs.Journals.{Journal}
use Rattle.journal_model.specs.BlockRoles.{Role, Metadata, Unclaimed}
use Rattle.journal_model.specs.Changes.{Change}
use Rattle.journal_model.specs.Worked.{directory_tx}

-- the root's block, 37, is metadata, and so is block 38, if there is such a directory
abbrev pub with_block : Bool → ℕ → Role
with_block has b = if b == 38 then (if has then Metadata 4096 else Unclaimed) else (if b == 37 then Metadata 4096 else Unclaimed)

abbrev pub making : Change
making = record { deltas = directory_tx.deltas; taken = 38 ∷ []; freed = []; given_back = [] }

-- a call is inside that may log so many bytes
abbrev pub reserved : Journal → (need : ℕ) → Journal
reserved j need = record j { members = j.members + 1; unspent = j.unspent + need }
