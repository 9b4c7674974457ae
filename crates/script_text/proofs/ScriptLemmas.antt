-- The lines of a script, one after the other.
use Rattle.std.proofs.Common.{◌≡◌, ◌<◌, ◌≤◌, ◌∙◌, ℕ, ◌+◌, Bool, true, false, List, [], ◌∷◌, ◌++◌, length, take, drop, Some, None, inl, inr, refl, ap, sym, arith}
use Rattle.std.specs.Prelude.{◌==◌, not, nat_lt, if◌then◌else◌, Option, unwrap_or}
use Rattle.std.specs.Option.{option_to_list}
use Rattle.std.specs.List.{filter_map, enumerate_from, slice_split, position, position_or_len, before_first, after_first, cons_option}
use Rattle.std.proofs.Math.Nat.{eq-or-lt_of_le}
use Rattle.std.proofs.lemmas.Bool.{ltb-false}
use Rattle.std.proofs.lemmas.List.{take_all, drop_all, append_assoc}
use Rattle.std.proofs.lemmas.List.Elements.{All-from_get_or}
use Rattle.std.proofs.lemmas.List.Splits.{slice_split_first, slice_split_none, length-slice_split}
use Rattle.std.proofs.lemmas.List.Sums.{fails_before_first, prefix_len-le-length}
use Rattle.tree_types.specs.declared.call.Line.{Line}
use Rattle.history_model.specs.Lines.{line_of, lines_of, first_caller, texts_in, without_empty_rest}

-- a line feed
abbrev is_feed : ℕ → Bool
is_feed b = b == 10

-- the lines among these texts, numbered from here on
abbrev pub lines_from : ℕ → List (List ℕ) → List Line
lines_from number texts = filter_map (λ numbered. line_of numbered.0 first_caller numbered.1) (enumerate_from number texts)

at_most : (less : Bool) (place end : ℕ) → place ≤ end → nat_lt place end ≡ less → unwrap_or (if less then Some place else None) end ≡ place
at_most true place end within is = refl
at_most false place end within is = let past = ltb-false place end is in omega (arith, within, past)

-- the place of the first feed, or the end
pub first_feed : (script : List ℕ) → unwrap_or (position is_feed script) (length script) ≡ position_or_len is_feed script
first_feed script = at_most (nat_lt (position_or_len is_feed script) (length script)) (position_or_len is_feed script) (length script) (prefix_len-le-length (λ b. not (is_feed b)) script) refl

-- a script without a feed is one part
whole : (script : List ℕ) → position_or_len is_feed script ≡ length script → slice_split is_feed script ≡ script ∷ []
whole script end = slice_split_none is_feed script (All-from_get_or (λ b. is_feed b ≡ false) script 0 (λ i inside. fails_before_first is_feed script i 0 (omega (arith, end, inside))))

-- one part is a line, unless it is empty
lone : (text : List ℕ) → 0 < length text → without_empty_rest (text ∷ []) ≡ text ∷ []
lone [] some = absurd (omega (arith, some))
lone (b ∷ text) some = refl

-- a part that isn't the last one is a line
followed : (text : List ℕ) (parts : List (List ℕ)) → 0 < length parts → without_empty_rest (text ∷ parts) ≡ text ∷ without_empty_rest parts
followed text [] some = absurd (omega (arith, some))
followed text (next ∷ parts) some = refl

-- the first line of a script, and those after it
pub first_line : (script : List ℕ) → 0 < length script
    → texts_in script ≡ take (position_or_len is_feed script) script ∷ texts_in (drop (position_or_len is_feed script + 1) script)
first_line script some = elim (eq-or-lt_of_le (prefix_len-le-length (λ b. not (is_feed b)) script)) [
  | inl end ↦ ap without_empty_rest (whole script end) ∙ lone script some
      ∙ rw (take_all (position_or_len is_feed script) script (omega (arith, end)), drop_all (position_or_len is_feed script + 1) script (omega (arith, end))) refl
  | inr inside ↦ ap without_empty_rest (slice_split_first is_feed script 0 inside)
      ∙ followed (before_first is_feed script) (slice_split is_feed (after_first is_feed script)) (let parts = length-slice_split is_feed (after_first is_feed script) in omega (arith, parts))
]

consed : {X : Type 0} (o : Option X) (xs : List X) → cons_option o xs ≡ option_to_list o ++ xs
consed None xs = refl
consed (Some x) xs = refl

-- the line of the first text, and those of the others
pub one_line : (number : ℕ) (text : List ℕ) (texts : List (List ℕ)) → lines_from number (text ∷ texts) ≡ option_to_list (line_of number first_caller text) ++ lines_from (number + 1) texts
one_line number text texts = consed (line_of number first_caller text) (lines_from (number + 1) texts)

-- all the lines of a script
pub begun : (script : List ℕ) → lines_of script ≡ lines_from 1 (texts_in script)
unfolding lines_of
begun script = refl

-- a script that isn't empty has a line
pub some_lines : (script : List ℕ) → 0 < length script → 0 < length (texts_in script)
some_lines script some = rw (first_line script some) (omega (arith))

pub not_empty : (xs : List ℕ) → false ≡ length xs == 0 → 0 < length xs
not_empty [] is = absurd (let e : false ≡ true = is in cc)
not_empty (x ∷ xs) is = omega (arith)

-- the lines that are read and those of what is left, with one line more read
pub line_more : (all have more : List Line) (number end : ℕ) (script rest : List ℕ) → 0 < length script → end ≡ position_or_len is_feed script → rest ≡ drop (end + 1) script
    → all ≡ have ++ lines_from number (texts_in script) → more ≡ have ++ option_to_list (line_of number first_caller (take end script)) → all ≡ more ++ lines_from (number + 1) (texts_in rest)
line_more all have more number end script rest some is after before got =
    let line : take (position_or_len is_feed script) script ≡ take end script = ap (λ n. take n script) (sym is) in
    let left : drop (position_or_len is_feed script + 1) script ≡ rest = ap (λ n. drop (n + 1) script) (sym is) ∙ sym after in
    before ∙ ap (λ (t : List (List ℕ)). have ++ lines_from number t) (first_line script some)
    ∙ ap (λ (t : List ℕ). have ++ lines_from number (t ∷ texts_in (drop (position_or_len is_feed script + 1) script))) line
    ∙ ap (λ (t : List ℕ). have ++ lines_from number (take end script ∷ texts_in t)) left
    ∙ ap (λ (l : List Line). have ++ l) (one_line number (take end script) (texts_in rest))
    ∙ sym (append_assoc have (option_to_list (line_of number first_caller (take end script))) (lines_from (number + 1) (texts_in rest)))
    ∙ ap (λ (l : List Line). l ++ lines_from (number + 1) (texts_in rest)) (sym got)

-- what is left has a line less
pub one_less : (end : ℕ) (script rest : List ℕ) → 0 < length script → end ≡ position_or_len is_feed script → rest ≡ drop (end + 1) script
    → length (texts_in script) ≡ length (texts_in rest) + 1
one_less end script rest some is after =
    let left : drop (position_or_len is_feed script + 1) script ≡ rest = ap (λ n. drop (n + 1) script) (sym is) ∙ sym after in
    let counted = ap (λ (t : List (List ℕ)). length t) (first_line script some) in
    let same = ap (λ (t : List ℕ). length (texts_in t)) left in
    omega (arith, counted, same)
