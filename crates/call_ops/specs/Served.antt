-- The calls that are served, and the words that a line gives them.
use Rattle.std.specs.Prelude.{ℕ, nat_lt, nat_le, Bool, true, false, ◌&&◌, IfSome, IsTrue}
use Rattle.std.specs.List.{list_all}
use Rattle.tree_types.specs.declared.call.Call.{Call}
use Rattle.tree_types.specs.declared.call.Call.TheVariants as call
use Rattle.tree_types.specs.declared.call.Line.{Line}

-- calls that change the names of directories, and are served
abbrev pub changes_names : Call → Bool
changes_names (call.Create path mode) = true
changes_names (call.Mkdir path mode) = true
changes_names (call.Remove path) = true
changes_names (call.Rmdir path) = true
changes_names other = false

-- calls that tell of an inode, and are served
abbrev pub tells : Call → Bool
tells (call.Stat path) = true
tells (call.Lstat path) = true
tells (call.List path after) = true
tells other = false

abbrev pub is_served : Call → Bool
is_served (call.Create path mode) = true
is_served (call.Mkdir path mode) = true
is_served (call.Remove path) = true
is_served (call.Rmdir path) = true
is_served (call.Stat path) = true
is_served (call.Lstat path) = true
is_served (call.List path after) = true
is_served other = false

-- a visible ASCII character
abbrev pub is_path_byte : ℕ → Bool
is_path_byte b = nat_le 0x21 b && nat_le b 0x7E

-- the mode is of nine bits
abbrev pub is_mode : ℕ → Bool
is_mode mode = nat_lt mode 512

-- The words of a served call are such as a line gives: the path has visible characters alone, and the mode is one. Nothing
-- is said of other calls.
abbrev pub has_right_words : Call → Bool
has_right_words (call.Create path mode) = list_all is_path_byte path && is_mode mode
has_right_words (call.Mkdir path mode) = list_all is_path_byte path && is_mode mode
has_right_words (call.Remove path) = list_all is_path_byte path
has_right_words (call.Rmdir path) = list_all is_path_byte path
has_right_words (call.Stat path) = list_all is_path_byte path
has_right_words (call.Lstat path) = list_all is_path_byte path
has_right_words (call.List path after) = list_all is_path_byte path
has_right_words other = true

-- so has the call of the line, if it has one
abbrev pub HasRightWords : Line → Type 0
HasRightWords line = IfSome line.call (λ c. IsTrue (has_right_words c))
