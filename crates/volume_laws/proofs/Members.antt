-- Members of lists that are made of others, and what holds of each member.
use Rattle.std.proofs.Common.{◌≡◌, ◌<◌, ◌⊎◌, inl, inr, ℕ, zero, suc, ◌+◌, Bool, true, false, cond, List, [], ◌∷◌, length, map, get_or, Some, sym, ap, ◌∙◌, subst, arith, refl}
use Rattle.std.specs.Option.{option_map}
use Rattle.std.specs.List.{All, Contains, filter, flat_map, range_with_len, slice_get}
use Rattle.std.proofs.lemmas.Option.{slice_get-map, slice_get-get_or}
use Rattle.std.proofs.lemmas.List.Elements.{All-nil, All-head, All-tail, All-append, All-from_get_or, Contains-append_left, Contains-append_right}
use Rattle.std.proofs.lemmas.List.FromFn.{length-range_with_len, get_or-range_with_len}

pub Contains_cases : {X : Type 0} (x : X) (xs : List X) (y : X) → Contains (x ∷ xs) y → (x ≡ y) ⊎ Contains xs y
Contains_cases x xs y (zero, below, is) = inl is
Contains_cases x xs y (suc k, below, is) = inr (k, omega (arith, below), is)

pub Contains_head : {X : Type 0} (x : X) (xs : List X) → Contains (x ∷ xs) x
Contains_head x xs = (0, omega arith, refl)

pub Contains_behind : {X : Type 0} (x : X) (xs : List X) (y : X) → Contains xs y → Contains (x ∷ xs) y
Contains_behind x xs y here = (suc here.0, omega (arith, here.1), here.2)

pub Contains_range : (n i : ℕ) → i < n → Contains (range_with_len 0 n) i
Contains_range n i below =
    let same : 0 + i ≡ i = omega arith in
    (i, omega (arith, below, length-range_with_len 0 n), get_or-range_with_len 0 n i i below ∙ same)

-- a number of the first n
pub in_range : (n i : ℕ) → Contains (range_with_len 0 n) i → i < n
in_range n i here =
    let below : here.0 < n = omega (arith, here.1, length-range_with_len 0 n) in
    let at : 0 + here.0 ≡ i = sym (get_or-range_with_len 0 n here.0 i below) ∙ here.2 in
    omega (arith, at, below)

pub Contains_map : {X Y : Type 0} (f : X → Y) (xs : List X) (x : X) → Contains xs x → Contains (map f xs) (f x)
Contains_map f [] x here = absurd (omega (arith, here.1))
Contains_map {Y = Y} f (y ∷ xs) x here = elim (Contains_cases y xs x here) [
  | inl is ↦ subst (λ (z : Y). Contains (z ∷ map f xs) (f x)) (sym (ap f is)) (Contains_head (f x) (map f xs))
  | inr rest ↦ Contains_behind (f y) (map f xs) (f x) (Contains_map f xs x rest)
]

pub Contains_filter : {X : Type 0} (p : X → Bool) (xs : List X) (x : X) → Contains xs x → p x ≡ true → Contains (filter p xs) x
Contains_filter p [] x here passes = absurd (omega (arith, here.1))
Contains_filter {X} p (y ∷ xs) x here passes = elim (Contains_cases y xs x here) [
  | inl is ↦
      let kept : filter p (x ∷ xs) ≡ x ∷ filter p xs = ap (λ (b : Bool). cond b (x ∷ filter p xs) (filter p xs)) passes in
      subst (λ (z : X). Contains (filter p (z ∷ xs)) x) (sym is) (subst (λ (l : List X). Contains l x) (sym kept) (Contains_head x (filter p xs)))
  | inr rest ↦
      let behind = Contains_filter p xs x rest passes in
      elim (p y) as (λ b. Contains (cond b (y ∷ filter p xs) (filter p xs)) x) [ true ↦ Contains_behind y (filter p xs) x behind | false ↦ behind ]
]

pub Contains_flat_map : {X Y : Type 0} (f : X → List Y) (xs : List X) (x : X) (y : Y) → Contains xs x → Contains (f x) y → Contains (flat_map f xs) y
Contains_flat_map f [] x y here there = absurd (omega (arith, here.1))
Contains_flat_map {X} f (z ∷ xs) x y here there = elim (Contains_cases z xs x here) [
  | inl is ↦ Contains-append_left (f z) (flat_map f xs) y (subst (λ (w : X). Contains (f w) y) (sym is) there)
  | inr rest ↦ Contains-append_right (f z) (flat_map f xs) y (Contains_flat_map f xs x y rest there)
]

pub All_range : (P : ℕ → Type 0) (n : ℕ) → ((i : ℕ) → i < n → P i) → All P (range_with_len 0 n)
All_range P n each = All-from_get_or P (range_with_len 0 n) 0 (λ i within.
    let below : i < n = omega (arith, within, length-range_with_len 0 n) in
    let same : 0 + i ≡ i = omega arith in
    subst P (sym (get_or-range_with_len 0 n i 0 below ∙ same)) (each i below))

pub All_flat_map : {X Y : Type 0} (P : Y → Type 0) (f : X → List Y) (xs : List X) → All (λ x. All P (f x)) xs → All P (flat_map f xs)
All_flat_map P f [] each = All-nil P
All_flat_map P f (x ∷ xs) each =
    All-append P (f x) (flat_map f xs) (All-head (λ x. All P (f x)) x xs each) (All_flat_map P f xs (All-tail (λ x. All P (f x)) x xs each))

-- an entry of a list that is made of the first n numbers
pub entry_of_range : {X : Type 0} (f : ℕ → X) (n i : ℕ) → i < n → slice_get (map f (range_with_len 0 n)) i ≡ Some (f i)
entry_of_range f n i below =
    let inside : i < length (range_with_len 0 n) = omega (arith, length-range_with_len 0 n, below) in
    let at : get_or (range_with_len 0 n) i 0 ≡ i = get_or-range_with_len 0 n i 0 below ∙ (let from : 0 + i ≡ i = omega arith in from) in
    slice_get-map f (range_with_len 0 n) i
    ∙ ap (option_map f) (slice_get-get_or (range_with_len 0 n) i 0 inside ∙ ap (λ (k : ℕ). Some k) at)

-- functions that give the same for each element give the same list
pub map_same : {X Y : Type 0} (f h : X → Y) (xs : List X) → All (λ x. f x ≡ h x) xs → map f xs ≡ map h xs
map_same f h [] each = refl
map_same {Y = Y} f h (x ∷ xs) each =
    ap (λ (y : Y). y ∷ map f xs) (All-head (λ x. f x ≡ h x) x xs each)
    ∙ ap (λ (l : List Y). h x ∷ l) (map_same f h xs (All-tail (λ x. f x ≡ h x) x xs each))
