-- Which bytes of files an entry touches, and which bytes a caller may count on after a crash.
use Rattle.std.specs.Prelude.{◌≡◌, ◌≤◌, ◌<◌, ◌⊎◌, ℕ, ◌+◌, ◌-◌, ◌/◌, ◌==◌, nat_le, nat_lt, Bool, true, false, not, ◌&&◌, ◌||◌, if◌then◌else◌, List, length, Option, Some, None, is_some, IfSome, IsSomeAnd, Ok, Err}
use Rattle.std.specs.Option.{option_map_or}
use Rattle.lufs_base.specs.declared.geometry.Geometry.{Geometry}
use Rattle.tree_types.specs.declared.credentials.Cred.{Cred}
use Rattle.tree_types.specs.declared.call.Call.{Call}
use Rattle.tree_types.specs.declared.call.Call.TheVariants as call
use Rattle.tree_types.specs.declared.reply.Refusal.TheVariants as refusal
use Rattle.tree_types.specs.declared.reply.Reply.{Reply}
use Rattle.tree_types.specs.declared.reply.Reply.TheVariants as reply
use Rattle.tree_types.specs.declared.history.Entry.{Entry}
use Rattle.volume_model.specs.Sound.{FileNode, Tree}
use Rattle.history_model.specs.Places.{file_in}
use Rattle.history_model.specs.Walk.{walk_of}
use Rattle.history_model.specs.Ends.{is_long}
use Rattle.history_model.specs.FileBytes.{block_at, reaches}
use Rattle.history_model.specs.Histories.{entry_at, is_ok, replay_of}

-- the inode that a path names, where a link at its end is followed
abbrev pub inode_named : Tree → Cred → (path : List ℕ) → Option ℕ
inode_named tree cred path = if is_long path then None else elim (walk_of tree cred path true) [ Ok p ↦ p.found | Err why ↦ None ]

abbrev pub names_inode : Tree → Cred → (path : List ℕ) → (ino : ℕ) → Bool
names_inode tree cred path ino = option_map_or (λ i. i == ino) (inode_named tree cred path) false

-- byte p is at or past the old size, in a block that is claimed already, and the size grows: it is zeroed or written
abbrev pub is_zeroed : FileNode → (new_size p : ℕ) → Bool
is_zeroed file new_size p = nat_lt file.size new_size && nat_le file.size p && is_some (block_at file (p / 4096))

-- byte p is in a block that the write claims
abbrev pub is_fresh : FileNode → (offset count p : ℕ) → Bool
is_fresh file offset count p = reaches offset count (p / 4096) && not (is_some (block_at file (p / 4096)))

abbrev pub write_touches : FileNode → (offset count p : ℕ) → Bool
write_touches file offset count p =
    (nat_le offset p && nat_lt p (offset + count)) || is_zeroed file (offset + count) p || is_fresh file offset count p

abbrev pub trunc_touches : FileNode → (size p : ℕ) → Bool
trunc_touches file size p = nat_le size p || is_zeroed file size p

-- what a call would touch of byte p of inode `ino`: only a write and a trunc touch any
abbrev pub call_touches : Tree → Cred → Option Call → (ino p : ℕ) → Bool
call_touches tree cred (Some (call.Write path offset bytes)) ino p =
    names_inode tree cred path ino && option_map_or (λ file. write_touches file offset (length bytes) p) (file_in tree ino) false
call_touches tree cred (Some (call.Trunc path size)) ino p =
    names_inode tree cred path ino && option_map_or (λ file. trunc_touches file size p) (file_in tree ino) false
call_touches tree cred other ino p = false

-- the call was carried out, or ended in the middle
abbrev pub may_have_written : Reply → Bool
may_have_written (reply.Refused refusal.Fault) = true
may_have_written (reply.Refused other) = false
may_have_written other = true

-- the entry, on this tree, touches byte p of file `ino`
abbrev pub touches_byte : Tree → Entry → (ino p : ℕ) → Bool
touches_byte tree e ino p = may_have_written e.reply && call_touches tree e.cred e.call ino p

-- the tree before entry number n
abbrev pub tree_before : Geometry → (moment : ℕ) → (opening : Tree) → List Entry → (n : ℕ) → Tree
tree_before g moment opening entries n = replay_of g moment opening entries (n - 1)

-- entry number i touches byte p of file `ino`
abbrev pub Touches : Geometry → (moment : ℕ) → (opening : Tree) → List Entry → (i ino p : ℕ) → Type 0
Touches g moment opening entries i ino p = IsSomeAnd (entry_at entries i) (λ e. touches_byte (tree_before g moment opening entries i) e ino p ≡ true)

-- the call is an fsync of inode `ino`
abbrev pub is_fsync_of : Tree → Cred → Option Call → (ino : ℕ) → Bool
is_fsync_of tree cred (Some (call.Fsync path)) ino = names_inode tree cred path ino
is_fsync_of tree cred other ino = false

-- the entry is an fsync of inode `ino` that was answered ok, after at most n listed calls of the disk
pub record IsAcknowledged (tree : Tree) (n ino : ℕ) (e : Entry) : Type 0 where
  pub call : is_fsync_of tree e.cred e.call ino ≡ true
  pub reply : is_ok e.reply ≡ true
  pub told : IsSomeAnd e.told (λ told. told ≤ n)

-- Byte p of file `ino` was acknowledged by entry j, or by the opening where j is 0, and no later entry that began before
-- listed call n touches it.
pub record IsSettledSince (g : Geometry) (moment : ℕ) (opening : Tree) (entries : List Entry) (n ino p j : ℕ) : Type 0 where
  pub acknowledged : (j ≡ 0) ⊎ IsSomeAnd (entry_at entries j) (IsAcknowledged (tree_before g moment opening entries j) n ino)
  pub untouched : (i : ℕ) → j < i → IfSome (entry_at entries i) (λ e. e.start < n → touches_byte (tree_before g moment opening entries i) e ino p ≡ false)

-- there is such an entry, or the opening
abbrev pub Settled : Geometry → (moment : ℕ) → (opening : Tree) → List Entry → (n ino p : ℕ) → Type 0
Settled g moment opening entries n ino p = (j : ℕ) × IsSettledSince g moment opening entries n ino p j
