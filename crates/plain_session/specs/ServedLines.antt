-- Which lines of a script are served, and how many of them in so many turns.
use Rattle.std.specs.Prelude.{◌≡◌, ℕ, ◌+◌, ◌-◌, ◌==◌, nat_le, Bool, true, false, if◌then◌else◌, List, [], ◌∷◌, Option, Some, None, IfSome, IsTrue}
use Rattle.std.specs.List.{count_by}
use Rattle.tree_types.specs.declared.call.Call.{Call}
use Rattle.tree_types.specs.declared.call.Line.{Line}
use Rattle.call_ops.specs.Served.{is_served, changes_names, has_right_words}

-- the call, if it is served
abbrev pub served_call : (sync : Bool) → Option Call → Option Call
served_call true call = None
served_call false None = None
served_call false (Some c) = if is_served c then Some c else None

-- a line whose call isn't served yet, or that is synchronous, counts as one without a call
abbrev pub served_line : Line → Line
served_line line = record line { sync = false; call = served_call line.sync line.call }

-- The line may be served: it waits for no commit, and its call, if it has one, is served and has right words.
pub record MayServe (line : Line) : Type 0 where
  pub sync : line.sync ≡ false
  pub served : IfSome line.call (λ c. IsTrue (is_served c))
  pub words : IfSome line.call (λ c. IsTrue (has_right_words c))

abbrev pub turns_for : Option Call → ℕ
turns_for None = 2
turns_for (Some c) = if changes_names c then 4 else 2

-- how many turns the line takes
abbrev pub turns_of : Line → ℕ
turns_of line = turns_for line.call

-- How many of the lines, one after the other, are entered in so many turns: each in the last but one of its turns.
abbrev pub entered_in : (turns : ℕ) → List Line → ℕ
entered_in turns [] = 0
entered_in turns (line ∷ lines) = if nat_le (turns_of line) (turns + 1) then 1 + entered_in (turns - turns_of line) lines else 0

-- how many of them are told: each in the last of its turns
abbrev pub told_in : (turns : ℕ) → List Line → ℕ
told_in turns [] = 0
told_in turns (line ∷ lines) = if nat_le (turns_of line) turns then 1 + told_in (turns - turns_of line) lines else 0

-- how many turns a schedule gives a stream: its bytes that are `0`
abbrev pub turns_in : (schedule : List ℕ) → ℕ
turns_in schedule = count_by (λ b. b == 48) schedule
