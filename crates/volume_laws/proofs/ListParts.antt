-- Lists over the first numbers that differ in one entry, and parts of lists that differ elsewhere.
use Rattle.std.proofs.Common.{◌≡◌, ◌≢◌, ◌<◌, ◌≤◌, inl, inr, ℕ, ◌+◌, ◌-◌, List, length, map, take, drop, get_or, set, Some, sym, ap, ◌∙◌, arith}
use Rattle.std.specs.List.{range_with_len, slice_get}
use Rattle.std.proofs.lemmas.Bool.{cases_eq, cases_lt}
use Rattle.std.proofs.lemmas.List.{ext_get_or, length-set, get_or-set_same, get_or-set_other, drop-take, drop-drop, take-take}
use Rattle.std.proofs.lemmas.Option.{slice_get_past, slice_get-get_or}
use Rattle.std.proofs.lemmas.List.FromFn.{length-map-range_with_len, get_or-map-range_with_len}

-- a map over the first n numbers, where the function changes at one of them
pub map_changed : {X : Type 0} (f h : ℕ → X) (n i : ℕ) → i < n → ((j : ℕ) → j < n → j ≢ i → h j ≡ f j)
    → map h (range_with_len 0 n) ≡ set (map f (range_with_len 0 n)) i (h i)
map_changed f h n i within same =
    let old = map f (range_with_len 0 n) in
    let new = map h (range_with_len 0 n) in
    let size : length new ≡ n = length-map-range_with_len h 0 n in
    let before : length old ≡ n = length-map-range_with_len f 0 n in
    ext_get_or (h i) new (set old i (h i)) (size ∙ sym (length-set old i (h i) ∙ before)) (λ j less.
    let below : j < n = omega (arith, less, size) in
    let zero_and : 0 + j ≡ j = omega arith in
    get_or-map-range_with_len h 0 n j j (h i) below zero_and ∙ elim (cases_eq j i) [
      | inl here ↦ ap h here ∙ sym (ap (λ (k : ℕ). get_or (set old i (h i)) k (h i)) here ∙ get_or-set_same old i (h i) (h i) (omega (arith, before, within)))
      | inr away ↦
          same j below away ∙ sym (get_or-set_other old i j (h i) (h i) away ∙ get_or-map-range_with_len f 0 n j j (h i) below zero_and)
    ])

-- the entry that was changed, and another one
pub entry_set : {X : Type 0} (xs : List X) (i : ℕ) (x : X) → i < length xs → slice_get (set xs i x) i ≡ Some x
entry_set xs i x within =
    slice_get-get_or (set xs i x) i x (omega (arith, within, length-set xs i x)) ∙ ap (λ y. Some y) (get_or-set_same xs i x x within)

pub entry_kept : {X : Type 0} (xs : List X) (i : ℕ) (x : X) (j : ℕ) → j ≢ i → slice_get (set xs i x) j ≡ slice_get xs j
entry_kept xs i x j away =
    let size = length-set xs i x in
    elim (cases_lt j (length xs)) [
      | inl inside ↦
          slice_get-get_or (set xs i x) j x (omega (arith, inside, size)) ∙ ap (λ y. Some y) (get_or-set_other xs i j x x away)
          ∙ sym (slice_get-get_or xs j x inside)
      | inr past ↦ slice_get_past (set xs i x) j (omega (arith, past, size)) ∙ sym (slice_get_past xs j past)
    ]

-- a part before what may differ, and one after it
pub part_before : {X : Type 0} (xs ys : List X) (p m at : ℕ) → take at ys ≡ take at xs → p + m ≤ at → take m (drop p ys) ≡ take m (drop p xs)
part_before {X} xs ys p m at same before =
    let cut : (l : List X) → take m (drop p l) ≡ drop p (take (p + m) (take at l)) = λ l.
    sym (ap (drop p) (take-take (p + m) at l before) ∙ drop-take p m l) in
    cut ys ∙ ap (λ (l : List X). drop p (take (p + m) l)) same ∙ sym (cut xs)

pub part_after : {X : Type 0} (xs ys : List X) (p m end : ℕ) → drop end ys ≡ drop end xs → end ≤ p → take m (drop p ys) ≡ take m (drop p xs)
part_after {X} xs ys p m end same after =
    let at : end + (p - end) ≡ p = omega (arith, after) in
    let cut : (l : List X) → take m (drop p l) ≡ take m (drop (p - end) (drop end l)) = λ l.
    sym (ap (take m) (drop-drop (p - end) end l ∙ ap (λ (k : ℕ). drop k l) at)) in
    cut ys ∙ ap (λ (l : List X). take m (drop (p - end) l)) same ∙ sym (cut xs)
