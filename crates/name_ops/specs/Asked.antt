-- What a call is answered that is asked, and the parts of that answer.
use Rattle.std.specs.Prelude.{◌≡◌, ℕ, ◌==◌, nat_lt, Bool, true, false, ◌&&◌, if◌then◌else◌, List, [], Option, Some, None}
use Rattle.lufs_base.specs.declared.geometry.Geometry.{Geometry}
use Rattle.volume_model.specs.declared.inode.Dinode.{Dinode}
use Rattle.volume_model.specs.Sound.{Tree}
use Rattle.tree_types.specs.declared.credentials.Cred.{Cred}
use Rattle.tree_types.specs.declared.reply.Refusal.{Refusal}
use Rattle.tree_types.specs.declared.reply.Refusal.TheVariants.{Noinodes, Nospace}
use Rattle.history_model.specs.Places.{may}
use Rattle.history_model.specs.Wants as model
use Rattle.history_model.specs.Wants.{blocks_for_name}
use Rattle.history_model.specs.Refusals.{Decision, Refuse, Unchanged, Proceed, cannot_grow}
use Rattle.inode_reads.specs.InodeOf.{IsInodeOf}
use Rattle.dir_reads.specs.declared.space.Room.{Room}
use Rattle.dir_reads.specs.declared.space.Room.TheVariants.{Fits, NewChunk, NewBlock, Past}
use Rattle.name_ops.specs.declared.wanted.Wanted.{Wanted}
use Rattle.name_ops.specs.declared.wanted.Wanted.TheVariants.{Refused, Wants}

-- the answer: why it is refused, or what it wants; one that changes nothing wants nothing
abbrev pub asked : Decision → model.Wanted → Wanted
asked (Refuse why) wanted = Refused why
asked Unchanged wanted = Wants false [] 0
asked Proceed wanted = Wants wanted.inode wanted.fresh wanted.others

-- the record is that of directory `dir`, whose names the caller may change, or there is none and they may not be changed
abbrev pub IsWritable : Geometry → Tree → Cred → (dir : ℕ) → Option Dinode → Type 0
IsWritable g tree cred dir None = may tree cred dir 2 ≡ false
IsWritable g tree cred dir (Some d) = (may tree cred dir 2 ≡ true) × IsInodeOf g tree dir (Some d)

-- how many blocks directory `dir` wants for the name; none where it can't have one chunk more
abbrev pub name_blocks : Tree → (dir : ℕ) → (name : List ℕ) → Option ℕ
name_blocks tree dir name = if cannot_grow tree dir name then None else Some (blocks_for_name tree dir name)

-- the same by where there is room, for a directory of so many bytes: of 96 chunks the next one has a pointer block too
abbrev pub blocks_by : Room → (size : ℕ) → Option ℕ
blocks_by Past size = None
blocks_by Fits size = Some 0
blocks_by NewChunk size = Some 0
blocks_by NewBlock size = if size == 49152 then Some 2 else Some 1

-- why what is free isn't enough for an inode or none and so many blocks, if it isn't
abbrev pub lack_by : (inode : Bool) → (blocks free_inodes free_blocks : ℕ) → Option Refusal
lack_by inode blocks free_inodes free_blocks =
    if inode && free_inodes == 0 then Some Noinodes else (if nat_lt free_blocks blocks then Some Nospace else None)
