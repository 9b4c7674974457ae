-- Why a part of a path can't be looked up in an inode, by its record.
use Rattle.std.specs.Prelude.{ℕ, ◌%◌, nat_lt, Bool, if◌then◌else◌, List, length, Option, Some, None}
use Rattle.tree_types.specs.declared.credentials.Cred.{Cred}
use Rattle.tree_types.specs.Permits.{permits}
use Rattle.tree_types.specs.declared.reply.Refusal.{Refusal}
use Rattle.tree_types.specs.declared.reply.Refusal.TheVariants.{Notdir, Denied, Nametoolong}
use Rattle.volume_model.specs.declared.inode.Dinode.{Dinode}
use Rattle.volume_model.specs.Format.{is_directory}

-- the caller may look names up in a directory with this record
abbrev pub may_search : Cred → Dinode → Bool
may_search cred d = permits cred (d.mode % 512) d.uid d.gid 1

abbrev pub refused_by_record : Cred → Option Dinode → (part : List ℕ) → Option Refusal
refused_by_record cred None part = Some Notdir
refused_by_record cred (Some d) part =
    if is_directory d.mode
    then (if may_search cred d then (if nat_lt 255 (length part) then Some Nametoolong else None) else Some Denied)
    else Some Notdir
