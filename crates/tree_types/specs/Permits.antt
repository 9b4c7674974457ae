-- What a caller may do with an inode.
use Rattle.std.specs.Prelude.{ℕ, ◌/◌, ◌%◌, ◌==◌, Bool, ◌||◌, if◌then◌else◌, bit_and}
use Rattle.tree_types.specs.declared.credentials.Cred.{Cred}

-- the three rights, as one number, that count for a caller: those of the owner, of the group or of all others
abbrev pub rights_for : Cred → (mode uid gid : ℕ) → ℕ
rights_for cred mode uid gid = if cred.uid == uid then mode / 64 % 8 else (if cred.gid == gid then mode / 8 % 8 else mode % 8)

-- The caller has these rights, of 4 to read, 2 to write and 1 to search, on an inode of this mode, owner and group. The
-- superuser has all.
abbrev pub permits : Cred → (mode uid gid bit : ℕ) → Bool
permits cred mode uid gid bit = cred.uid == 0 || bit_and (rights_for cred mode uid gid) bit == bit
