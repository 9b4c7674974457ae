-- The room in the log that a line reserves.
use Rattle.std.specs.Prelude.{ℕ, Bool, true, false, if◌then◌else◌, Option, Some, None}
use Rattle.lufs_base.specs.Layout.{need_of}
use Rattle.lufs_base.specs.declared.geometry.Geometry.{Geometry}
use Rattle.tree_types.specs.declared.call.Call.{Call}
use Rattle.tree_types.specs.declared.call.Call.TheVariants as call

-- the call may change the tree
abbrev pub is_changing : Call → Bool
is_changing (call.Fsync path) = false
is_changing (call.Read path offset count) = false
is_changing (call.Stat path) = false
is_changing (call.Lstat path) = false
is_changing (call.List path after) = false
is_changing (call.Readlink path) = false
is_changing call.Df = false
is_changing (call.Become uid gid) = false
is_changing other = true

-- how many bytes of deltas a line reserves in the log: none where it is no call, or a call that changes nothing
abbrev pub line_need : Geometry → Option Call → ℕ
line_need g None = 0
line_need g (Some c) = if is_changing c then need_of g else 0
