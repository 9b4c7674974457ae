-- What a search along a list finds, and what it passes over.
use Rattle.std.proofs.Common.{◌≡◌, ◌<◌, inl, inr, ℕ, ◌+◌, Bool, true, false, List, Option, Some, None, refl, sym, ◌∙◌, ap, arith}
use Rattle.std.specs.List.{find, Contains, position_or_len, range_with_len}
use Rattle.std.proofs.lemmas.Option.{slice_get_cases, slice_get_within, get_or_from_slice_get}
use Rattle.std.proofs.lemmas.List.Folds.{find_at}
use Rattle.std.proofs.lemmas.List.Sums.{fails_before_first, passes_at_first}
use Rattle.std.proofs.lemmas.List.FromFn.{length-range_with_len, get_or-range_with_len}
use Rattle.std.specs.Prelude.{slice_get, slice_index_or}

-- what is found is in the list, and passes
pub found_in : {X : Type 0} (p : X → Bool) (xs : List X) (x : X) → find p xs ≡ Some x → Contains xs x × (p x ≡ true)
found_in p xs x found =
    let at = position_or_len p xs in
    let place : slice_get xs at ≡ Some x = sym (find_at p xs) ∙ found in
    let within = slice_get_within xs at x place in
    let is : slice_index_or xs at x ≡ x = get_or_from_slice_get xs at x x place in
    ((at, within, is), ap p (sym is) ∙ passes_at_first p xs x within)

-- each element before it fails
pub passed_over : {X : Type 0} (p : X → Bool) (xs : List X) (x : X) → find p xs ≡ Some x
    → (k : ℕ) × (slice_get xs k ≡ Some x) × ((j : ℕ) (y : X) → j < k → slice_index_or xs j y ≡ y → p y ≡ false)
passed_over p xs x found =
    let at = position_or_len p xs in
    (at, sym (find_at p xs) ∙ found, λ j y before is. ap p (sym is) ∙ fails_before_first p xs j y before)

none_unless : {X : Type 0} (o : Option X) → ((x : X) → o ≡ Some x → ⊥) → o ≡ None
none_unless None never = refl
none_unless (Some x) never = absurd (never x refl)

-- nothing is found exactly where each element fails
pub none_found : {X : Type 0} (p : X → Bool) (xs : List X) → find p xs ≡ None → (x : X) → Contains xs x → p x ≡ false
none_found p xs none x (k, inside, is) =
    let at = position_or_len p xs in
    elim (slice_get_cases xs at).1 [
      | inl here ↦ let found : Some here.0 ≡ None = sym here.2 ∙ sym (find_at p xs) ∙ none in cc
      | inr past ↦ ap p (sym is) ∙ fails_before_first p xs k x (omega (arith, inside, past.0))
    ]

pub none_to_find : {X : Type 0} (p : X → Bool) (xs : List X) → ((x : X) → Contains xs x → p x ≡ false) → find p xs ≡ None
none_to_find p xs fail = none_unless (find p xs) (λ x found.
    let here = found_in p xs x found in
    let both : true ≡ false = sym here.1 ∙ fail x here.0 in cc)

-- each number of a range below the one that is found fails
pub fails_below : (p : ℕ → Bool) (a n x m : ℕ) → find p (range_with_len a n) ≡ Some x → m < x → Contains (range_with_len a n) m → p m ≡ false
fails_below p a n x m found below (j, inside, is) =
    let over = passed_over p (range_with_len a n) x found in
    let within = slice_get_within (range_with_len a n) over.0 x over.1 in
    let size = length-range_with_len a n in
    let at : a + over.0 ≡ x = sym (get_or-range_with_len a n over.0 x (omega (arith, within, size))) ∙ get_or_from_slice_get (range_with_len a n) over.0 x x over.1 in
    let of : a + j ≡ m = sym (get_or-range_with_len a n j m (omega (arith, inside, size))) ∙ is in
    over.2 j m (omega (arith, at, of, below)) is
