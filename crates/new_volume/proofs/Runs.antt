-- Lists over a run of numbers, such as those of a volume's inodes, where only 2, the root's, gives anything.
use Rattle.std.proofs.Common.{◌≡◌, ◌≢◌, ◌<◌, ◌≤◌, ℕ, zero, suc, ◌+◌, Bool, false, cond, fold, List, [], ◌∷◌, ◌++◌, map, replicate, inl, inr, refl, sym, ap, ◌∙◌, arith}
use Rattle.std.specs.Prelude.{sum_by, flat_map, Contains}
use Rattle.std.specs.List.{range_with_len}
use Rattle.std.proofs.lemmas.Bool.{cases_eq}
use Rattle.std.proofs.lemmas.List.{append-nil}
use Rattle.std.proofs.lemmas.List.Sums.{sum_by-cons}
use Rattle.std.proofs.lemmas.List.FromFn.{get_or-range_with_len, length-range_with_len}

-- a function that is constant on the run makes copies
pub copies : {X : Type 0} (f : ℕ → X) (x : X) (a n : ℕ) → ((i : ℕ) → a ≤ i → i < a + n → f i ≡ x) → map f (range_with_len a n) ≡ replicate n x
copies f x a zero same = refl
copies f x a (suc n) same =
    let first = same a (omega arith) (omega arith) in
    let rest = copies f x (a + 1) n (λ i low high. same i (omega (arith, low)) (omega (arith, high))) in
    λ i. first i ∷ rest i

-- where a test holds for no number but 2, and not for 2 either
pub nowhere : (test : ℕ → Bool) → test 2 ≡ false → ((i : ℕ) → i ≢ 2 → test i ≡ false) → (i : ℕ) → test i ≡ false
nowhere test at others i = elim (cases_eq i 2) [
  | inl same ↦ ap test same ∙ at
  | inr other ↦ others i other
]

-- what is made of each number below some, where only 2 gives anything
none_past : {A : Type 0} (f : ℕ → List A) (a n : ℕ) → 2 < a → ((i : ℕ) → i ≢ 2 → f i ≡ []) → flat_map f (range_with_len a n) ≡ []
none_past f a zero past none = refl
none_past f a (suc n) past none =
    ap (λ l. l ++ flat_map f (range_with_len (a + 1) n)) (none a (λ same. omega (arith, same, past))) ∙ none_past f (a + 1) n (omega (arith, past)) none

pub only_2 : {A : Type 0} (f : ℕ → List A) (n : ℕ) → ((i : ℕ) → i ≢ 2 → f i ≡ []) → flat_map f (range_with_len 0 (suc (suc (suc n)))) ≡ f 2
only_2 f n none =
    ap (λ l. l ++ (f 1 ++ (f 2 ++ flat_map f (range_with_len 3 n)))) (none 0 (λ same. omega (arith, same)))
    ∙ ap (λ l. l ++ (f 2 ++ flat_map f (range_with_len 3 n))) (none 1 (λ same. omega (arith, same)))
    ∙ ap (λ l. f 2 ++ l) (none_past f 3 n (omega arith) none) ∙ append-nil (f 2)

no_sum_past : (f : ℕ → ℕ) (a n : ℕ) → 2 < a → ((i : ℕ) → i ≢ 2 → f i ≡ 0) → sum_by f (range_with_len a n) ≡ 0
no_sum_past f a zero past none = refl
no_sum_past f a (suc n) past none =
    let here = none a (λ same. omega (arith, same, past)) in
    let rest = no_sum_past f (a + 1) n (omega (arith, past)) none in
    sum_by-cons f a (range_with_len (a + 1) n) ∙ (let sum : f a + sum_by f (range_with_len (a + 1) n) ≡ 0 = omega (arith, here, rest) in sum)

pub sum_only_2 : (f : ℕ → ℕ) (n : ℕ) → ((i : ℕ) → i ≢ 2 → f i ≡ 0) → sum_by f (range_with_len 0 (suc (suc (suc n)))) ≡ f 2
sum_only_2 f n none =
    let rest = range_with_len 3 n in
    let first = none 0 (λ same. omega (arith, same)) in
    let second = none 1 (λ same. omega (arith, same)) in
    let past = no_sum_past f 3 n (omega arith) none in
    sum_by-cons f 0 (1 ∷ (2 ∷ rest)) ∙ ap (λ k. f 0 + k) (sum_by-cons f 1 (2 ∷ rest)) ∙ ap (λ k. f 0 + (f 1 + k)) (sum_by-cons f 2 rest)
    ∙ (let sum : f 0 + (f 1 + (f 2 + sum_by f rest)) ≡ f 2 = omega (arith, first, second, past) in sum)

-- copies are mapped to copies
pub map_copies : {X Y : Type 0} (f : X → Y) (n : ℕ) (x : X) → map f (replicate n x) ≡ replicate n (f x)
map_copies f zero x = refl
map_copies f (suc n) x = let rest = map_copies f n x in λ i. f x ∷ rest i

-- what is in a run from 0 is below its end
pub in_range : (total n : ℕ) → Contains (range_with_len 0 total) n → n < total
in_range total n here =
    let size = length-range_with_len 0 total in
    let below : here.0 < total = omega (arith, here.1, size) in
    let place = get_or-range_with_len 0 total here.0 n below in
    omega (arith, below, sym here.2 ∙ place)

-- copies of what a test doesn't pass add nothing to a count
pub count_copies : {X : Type 0} (test : X → Bool) (a n : ℕ) (x : X) → test x ≡ false → fold (λ m y. m + cond (test y) 1 0) a (replicate n x) ≡ a
count_copies test a zero x fails = refl
count_copies test a (suc n) x fails =
    let counted : Bool → ℕ = λ b. cond b 1 0 in
    let none : counted (test x) ≡ 0 = ap counted fails in
    let same : a + counted (test x) ≡ a = omega (arith, none) in
    ap (λ (m : ℕ). fold (λ m y. m + cond (test y) 1 0) m (replicate n x)) same ∙ count_copies test a n x fails
