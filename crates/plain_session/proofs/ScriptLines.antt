-- The lines of a script, as they are served.
use Rattle.std.proofs.Common.{◌≡◌, ◌<◌, ℕ, Bool, true, false, List, [], ◌∷◌, Option, Some, None, IfSome, IsTrue, refl, arith}
use Rattle.std.proofs.Common.{cond}
use Rattle.std.specs.List.{All, AllByRecursion, filter_map, cons_option, enumerate_from}
use Rattle.std.proofs.lemmas.List.Elements.{recursion_from_All}
use Rattle.tree_types.specs.declared.credentials.Cred.{Cred}
use Rattle.tree_types.specs.declared.call.Call.{Call}
use Rattle.tree_types.specs.declared.call.Line.{Line}
use Rattle.history_model.specs.Lines.{first_caller, is_skipped, line_of, lines_of, texts_in}
use Rattle.call_ops.specs.Served.{is_served, changes_names, has_right_words, HasRightWords}
use Rattle.plain_session.specs.ServedLines.{served_call, served_line, turns_for, turns_of, MayServe}

-- a line of a script: its caller is the first one, and its words are right
pub record IsOfScript (line : Line) : Type 0 where
  pub cred : line.cred ≡ first_caller
  pub words : HasRightWords line

called_if : (cred : Cred) (skipped : Bool) (line : Line) → line.cred ≡ cred → IfSome {T = Line} (cond skipped None (Some line)) (λ line. line.cred ≡ cred)
called_if cred true line is = tt
called_if cred false line is = is

first_called : (number : ℕ) (cred : Cred) (text : List ℕ) → IfSome {T = Line} (line_of number cred text) (λ line. line.cred ≡ cred)
unfolding line_of
first_called number cred text = called_if cred (is_skipped text) _ refl

all_called : (numbered : List (ℕ × List ℕ)) → AllByRecursion (λ line. line.cred ≡ first_caller) (filter_map (λ n. line_of n.0 first_caller n.1) numbered)
all_called [] = tt
all_called (n ∷ numbered) = with_line (line_of n.0 first_caller n.1) (first_called n.0 first_caller n.1) (all_called numbered) where
  with_line : (o : Option Line) → IfSome o (λ line. line.cred ≡ first_caller) → AllByRecursion (λ line. line.cred ≡ first_caller) (filter_map (λ n. line_of n.0 first_caller n.1) numbered)
      → AllByRecursion (λ line. line.cred ≡ first_caller) (cons_option o (filter_map (λ n. line_of n.0 first_caller n.1) numbered))
  with_line None right more = more
  with_line (Some line) right more = (right, more)

called : (script : List ℕ) → AllByRecursion (λ line. line.cred ≡ first_caller) (lines_of script)
unfolding lines_of
called script = all_called (enumerate_from 1 (texts_in script))

both : (lines : List Line) → AllByRecursion (λ line. line.cred ≡ first_caller) lines → AllByRecursion HasRightWords lines → AllByRecursion IsOfScript lines
both [] creds words = tt
both (line ∷ lines) (cred, creds) (word, words) = (record { cred = cred; words = word }, both lines creds words)

pub script_lines : (script : List ℕ) → All HasRightWords (lines_of script) → AllByRecursion IsOfScript (lines_of script)
script_lines script words = both (lines_of script) (called script) (recursion_from_All HasRightWords (lines_of script) words)

-- a line of a script may be served as it is
pub may_serve : (line : Line) → HasRightWords line → MayServe (served_line line)
may_serve line words = record { sync = refl; served = served line.sync line.call; words = right line.sync line.call words } where
  served : (sync : Bool) (call : Option Call) → IfSome (served_call sync call) (λ c. IsTrue (is_served c))
  served true call = tt
  served false None = tt
  served false (Some c) = if_served (is_served c) refl where
    if_served : (b : Bool) → is_served c ≡ b → IfSome (cond b (Some c) None) (λ c. IsTrue (is_served c))
    if_served true is = is
    if_served false is = tt

  right : (sync : Bool) (call : Option Call) → IfSome call (λ c. IsTrue (has_right_words c)) → IfSome (served_call sync call) (λ c. IsTrue (has_right_words c))
  right true call given = tt
  right false None given = tt
  right false (Some c) given = if_served (is_served c) where
    if_served : (b : Bool) → IfSome (cond b (Some c) None) (λ c. IsTrue (has_right_words c))
    if_served true = given
    if_served false = tt

-- a line takes at least two turns
pub two_turns : (line : Line) → 1 < turns_of line
two_turns line = for_call line.call where
  for_call : (call : Option Call) → 1 < turns_for call
  for_call None = omega (arith)
  for_call (Some c) = by_names (changes_names c) where
    by_names : (b : Bool) → 1 < cond b 4 2
    by_names true = omega (arith)
    by_names false = omega (arith)
