-- A name that two slots have, as a set of the names so far finds it.
use Rattle.std.proofs.Common.{◌≡◌, ℕ, ◌+◌, ◌<◌, List, [], ◌∷◌, ◌++◌, length, get_or, take, drop, Bool, true, false, cond, not, ◌||◌, ◌==◌, bytes_eq, refl, ap, sym, ◌∙◌, arith, append-nil, Bor}
use Rattle.std.specs.List.{list_any}
use Rattle.std.specs.Ordering.{nat_cmp, is_eq}
use Rattle.std.specs.Cmp.Lexicographic.{slice_cmp}
use Rattle.std.proofs.lemmas.Bool.Decides.{nat_tests}
use Rattle.std.proofs.lemmas.Cmp.{same_from_slice_cmp}
use Rattle.std.proofs.lemmas.List.{take-append-drop}
use Rattle.std.proofs.lemmas.List.Folds.{list_any-append}
use Rattle.std.proofs.lemmas.List.Elements.{filter_more, filter-append}
use Rattle.volume_model.specs.declared.directory.Slot.{Slot}
use Rattle.volume_model.specs.Sound.{has_twice}
use Rattle.fsck_core.specs.Slots.{used_slots}

-- the order of names finds the same ones equal
pub same_name : (xs ys : List ℕ) → is_eq (slice_cmp nat_cmp xs ys) ≡ bytes_eq xs ys
same_name xs ys = same_from_slice_cmp nat_cmp is_eq bytes_eq refl (λ _ _. refl) (λ _ _. refl) (λ x y r s o h. grind (arith, nat_tests)) xs ys (slice_cmp nat_cmp xs ys) refl

-- the set of names finds this one
abbrev pub has_name : List (Bor (List ℕ)) → Bor (List ℕ) → Bool
has_name names name = list_any (λ k. is_eq (slice_cmp nat_cmp name.now k.now)) names

-- a slot has this name
abbrev pub is_named_among : List Slot → List ℕ → Bool
is_named_among slots name = list_any (λ s. bytes_eq s.name name) slots

-- the set has the names of these slots
abbrev pub FindsNames : List (Bor (List ℕ)) → List Slot → Type 0
FindsNames names slots = (name : Bor (List ℕ)) → has_name names name ≡ is_named_among slots name.now

or_true : (b : Bool) → (b || true) ≡ true
or_true true = refl
or_true false = refl

regrouped : (a b c d : Bool) → ((a || (b || false)) || (c || d)) ≡ ((a || c) || (b || d))
regrouped true b c d = refl
regrouped false true true d = refl
regrouped false true false d = refl
regrouped false false true d = refl
regrouped false false false d = refl

-- one slot more
pub twice_more : (slots : List Slot) (s : Slot) → has_twice (slots ++ s ∷ []) ≡ (has_twice slots || is_named_among slots s.name)
twice_more [] s = refl
twice_more (x ∷ xs) s =
    let named : Slot → Bool = λ t. bytes_eq x.name t.name in
    ap (λ (b : Bool). b || has_twice (xs ++ s ∷ [])) (list_any-append named xs (s ∷ []))
    ∙ ap (λ (b : Bool). (list_any named xs || (named s || false)) || b) (twice_more xs s)
    ∙ regrouped (list_any named xs) (named s) (has_twice xs) (is_named_among xs s.name)

-- and more
twice_kept : (slots more : List Slot) → has_twice slots ≡ true → has_twice (slots ++ more) ≡ true
twice_kept [] more twice = grind arith
twice_kept (x ∷ xs) more twice =
    let named : Slot → Bool = λ t. bytes_eq x.name t.name in
    let both = list_any-append named xs more in
    let behind = twice_kept xs more in
    grind (arith, both, behind, twice)

-- the slots in use with one more
pub used_more : (slots : List Slot) (i : ℕ) (s : Slot) → i < length slots → s ≡ get_or slots i s → (s.ino == 0) ≡ false → used_slots (take (i + 1) slots) ≡ used_slots (take i slots) ++ s ∷ []
used_more slots i s below is used =
    let test : Slot → Bool = λ t. not (t.ino == 0) in
    filter_more test slots i s below
    ∙ ap (λ (t : Slot). used_slots (take i slots) ++ cond (test t) (t ∷ []) []) (sym is)
    ∙ ap (λ (b : Bool). used_slots (take i slots) ++ cond (not b) (s ∷ []) []) used

pub unused_more : (slots : List Slot) (i : ℕ) (s : Slot) → i < length slots → s ≡ get_or slots i s → (s.ino == 0) ≡ true → used_slots (take (i + 1) slots) ≡ used_slots (take i slots)
unused_more slots i s below is unused =
    let test : Slot → Bool = λ t. not (t.ino == 0) in
    filter_more test slots i s below
    ∙ ap (λ (t : Slot). used_slots (take i slots) ++ cond (test t) (t ∷ []) []) (sym is)
    ∙ ap (λ (b : Bool). used_slots (take i slots) ++ cond (not b) (s ∷ []) []) unused
    ∙ append-nil (used_slots (take i slots))

shown : (b x : Bool) → (cond b true x) ≡ (x || (b || false))
shown true true = refl
shown true false = refl
shown false true = refl
shown false false = refl

-- the set with the name of one slot more
pub names_more : (before after : List (Bor (List ℕ))) (slots : List Slot) (key : Bor (List ℕ)) (s : Slot) → key.now ≡ s.name → FindsNames before slots
    → ((name : Bor (List ℕ)) → has_name after name ≡ cond (is_eq (slice_cmp nat_cmp key.now name.now)) true (has_name before name))
    → FindsNames after (slots ++ s ∷ [])
names_more before after slots key s is had updates name =
    updates name
    ∙ ap (λ (b : Bool). cond b true (has_name before name)) (same_name key.now name.now ∙ ap (λ (l : List ℕ). bytes_eq l name.now) is)
    ∙ ap (λ (b : Bool). cond (bytes_eq s.name name.now) true b) (had name)
    ∙ shown (bytes_eq s.name name.now) (is_named_among slots name.now)
    ∙ sym (list_any-append (λ (t : Slot). bytes_eq t.name name.now) slots (s ∷ []))

-- a name that the set didn't have stands there once
pub once_more : (names : List (Bor (List ℕ))) (slots : List Slot) (key : Bor (List ℕ)) (s : Slot) → key.now ≡ s.name → FindsNames names slots
    → has_twice slots ≡ false → has_name names key ≡ false → has_twice (slots ++ s ∷ []) ≡ false
once_more names slots key s is had once absent =
    twice_more slots s ∙ ap (λ (b : Bool). b || is_named_among slots s.name) once ∙ ap (is_named_among slots) (sym is) ∙ sym (had key) ∙ absent

-- and one that it had stands there twice
pub found_twice : (names : List (Bor (List ℕ))) (slots : List Slot) (i : ℕ) (key : Bor (List ℕ)) (s : Slot) → i < length slots → s ≡ get_or slots i s → (s.ino == 0) ≡ false
    → key.now ≡ s.name → FindsNames names (used_slots (take i slots)) → has_name names key ≡ true → has_twice (used_slots slots) ≡ true
found_twice names slots i key s below at used is had found =
    let front = used_slots (take i slots) in
    let back = used_slots (drop (i + 1) slots) in
    let split : used_slots slots ≡ (front ++ s ∷ []) ++ back =
    ap used_slots (sym (take-append-drop (i + 1) slots)) ∙ filter-append (λ (t : Slot). not (t.ino == 0)) (take (i + 1) slots) (drop (i + 1) slots)
    ∙ ap (λ (l : List Slot). l ++ back) (used_more slots i s below at used) in
    let named : is_named_among front s.name ≡ true = ap (is_named_among front) (sym is) ∙ sym (had key) ∙ found in
    let twice : has_twice (front ++ s ∷ []) ≡ true = twice_more front s ∙ ap (λ (b : Bool). has_twice front || b) named ∙ or_true (has_twice front) in
    ap has_twice split ∙ twice_kept (front ++ s ∷ []) back twice

-- what the opposite is
pub flipped : (b r : Bool) → not b ≡ r → b ≡ not r
flipped true r is = ap not is
flipped false r is = ap not is
