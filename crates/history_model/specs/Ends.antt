-- The paths of a call, walked.
use Rattle.std.specs.Prelude.{ℕ, nat_lt, Bool, true, false, ◌||◌, if◌then◌else◌, List, length, Result, Ok, Err}
use Rattle.tree_types.specs.declared.credentials.Cred.{Cred}
use Rattle.tree_types.specs.declared.call.Call.{Call}
use Rattle.tree_types.specs.declared.call.Call.TheVariants as call
use Rattle.tree_types.specs.declared.reply.Refusal.{Refusal}
use Rattle.tree_types.specs.declared.reply.Refusal.TheVariants.{Nametoolong}
use Rattle.volume_model.specs.Sound.{Tree}
use Rattle.history_model.specs.Walk.{WalkEnd, walk_of}

-- where the walks of a call's paths end
pub data WalkEnds : Type 0 where
  NoPath : WalkEnds
  One : WalkEnd → WalkEnds
  Two : (old new : WalkEnd) → WalkEnds

-- the word is longer than a path or the text of a link may be
abbrev pub is_long : List ℕ → Bool
is_long word = nat_lt 1024 (length word)

abbrev pub and_then : {X Y : Type 0} → Result X Refusal → (X → Result Y Refusal) → Result Y Refusal
and_then (Ok x) next = next x
and_then (Err refusal) next = Err refusal

abbrev pub unless_long : Bool → Result WalkEnds Refusal → Result WalkEnds Refusal
unless_long long ends = if long then Err Nametoolong else ends

-- one path; `follow` says that a link at its end is followed
abbrev pub end_of : Tree → Cred → (follow : Bool) → (path : List ℕ) → Result WalkEnds Refusal
end_of tree cred follow path = unless_long (is_long path) (and_then (walk_of tree cred path follow) (λ p. Ok (One p)))

-- two paths, of which the first is walked first; links at their ends aren't followed
abbrev pub both_ends_of : Tree → Cred → (old new : List ℕ) → Result WalkEnds Refusal
both_ends_of tree cred old new =
    unless_long (is_long old || is_long new)
    (and_then (walk_of tree cred old false) (λ p. and_then (walk_of tree cred new false) (λ q. Ok (Two p q))))

-- where the paths of a call end, or why one can't be walked
unfoldable pub ends_of : Tree → Cred → Call → Result WalkEnds Refusal
ends_of tree cred (call.Create path mode) = end_of tree cred false path
ends_of tree cred (call.Mkdir path mode) = end_of tree cred false path
ends_of tree cred (call.Link old new) = both_ends_of tree cred old new
ends_of tree cred (call.Symlink text path) = unless_long (is_long text) (end_of tree cred false path)
ends_of tree cred (call.Rename old new) = both_ends_of tree cred old new
ends_of tree cred (call.Remove path) = end_of tree cred false path
ends_of tree cred (call.Rmdir path) = end_of tree cred false path
ends_of tree cred (call.Chmod path mode) = end_of tree cred true path
ends_of tree cred (call.Chown path uid gid) = end_of tree cred true path
ends_of tree cred (call.Write path offset bytes) = end_of tree cred true path
ends_of tree cred (call.Trunc path size) = end_of tree cred true path
ends_of tree cred (call.Fsync path) = end_of tree cred true path
ends_of tree cred (call.Read path offset count) = end_of tree cred true path
ends_of tree cred (call.Stat path) = end_of tree cred true path
ends_of tree cred (call.Lstat path) = end_of tree cred false path
ends_of tree cred (call.List path after) = end_of tree cred true path
ends_of tree cred (call.Readlink path) = end_of tree cred false path
ends_of tree cred call.Df = Ok NoPath
ends_of tree cred (call.Become uid gid) = Ok NoPath
