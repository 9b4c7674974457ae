-- What a line asks for, by the call that it is.
use Rattle.std.proofs.Common.{◌≡◌, ◌≤◌, ℕ, ◌-◌, ◌∙◌, ap, take, length-drop, true, false, List, [], ◌∷◌, length, drop, get_or, Some, None, Result, refl, sym, subst, arith}
use Rattle.std.specs.Prelude.{Option, option_map, is_some, IfOk}
use denote.Ref.{Bor}
use Rattle.std.specs.Option.{option_map_or}
use Rattle.std.proofs.lemmas.List.{take_all}
use Rattle.tree_types.specs.declared.call.Call.{Call}
use Rattle.history_model.specs.Lines.{Arguments, begins_with, request_in, is_fsync, marked_request, plain_request, call_in, changing_calls, other_calls, or_other}
use Rattle.script_text.specs.Words.{texts}
use Rattle.script_text.specs.Requests.{asked_by}

marked : (made : Option Call) → asked_by (option_map (λ c. record { sync = true; call = c }) made) ≡ (is_some made, made)
marked None = refl
marked (Some c) = refl

pub marked_is : (word : List ℕ) (arguments : Arguments) → asked_by (marked_request word arguments) ≡ (is_some (call_in changing_calls word arguments), call_in changing_calls word arguments)
marked_is word arguments = marked (call_in changing_calls word arguments)

plain : (made : Option Call) → asked_by (option_map (λ c. record { sync = is_fsync c; call = c }) made) ≡ (option_map_or is_fsync made false, made)
plain None = refl
plain (Some c) = refl

pub plain_is : (word : List ℕ) (arguments : Arguments)
    → asked_by (plain_request word arguments)
    ≡ (option_map_or is_fsync (or_other (call_in changing_calls word arguments) (call_in other_calls word arguments)) false, or_other (call_in changing_calls word arguments) (call_in other_calls word arguments))
plain_is word arguments = plain (or_other (call_in changing_calls word arguments) (call_in other_calls word arguments))

-- all but the first, as a slice has them
all_but_first : {A : Type 0} (xs : List A) → drop 1 xs ≡ take (length xs - 1) (drop 1 xs)
all_but_first xs = sym (take_all (length xs - 1) (drop 1 xs) (omega (arith, length-drop 1 xs)))

pub with_mark : (word : List ℕ) (arguments : Arguments) → begins_with 33 word ≡ true → asked_by (request_in (word ∷ arguments)) ≡ asked_by (marked_request (take (length word - 1) (drop 1 word)) arguments)
with_mark word arguments mark = rw mark (ap (λ (w : List ℕ). asked_by (marked_request w arguments)) (all_but_first word))

first : (words : List (Bor (List ℕ))) (d : Bor (List ℕ)) → 1 ≤ length words → texts words ≡ (get_or words 0 d).now ∷ texts (drop 1 words)
first [] d some = absurd (omega arith)
first (word ∷ words) d some = refl

-- the first word and the others
pub first_and_rest : (words : List (Bor (List ℕ))) (d : Bor (List ℕ)) → 1 ≤ length words → texts words ≡ (get_or words 0 d).now ∷ texts (take (length words - 1) (drop 1 words))
first_and_rest words d some = first words d some ∙ ap (λ (rest : List (Bor (List ℕ))). (get_or words 0 d).now ∷ texts rest) (all_but_first words)

pub ok_as : {T E : Type 0} {x y : T} (r : Result T E) → x ≡ y → IfOk r (λ a. a ≡ y) → IfOk r (λ a. a ≡ x)
ok_as {T} r same is = subst (λ (z : T). IfOk r (λ a. a ≡ z)) (sym same) is
