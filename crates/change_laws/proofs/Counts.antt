-- How often a number stands in a list, and what that says of its members.
use Rattle.std.proofs.Common.{◌≡◌, ◌≢◌, ◌≤◌, inl, inr, ℕ, ◌+◌, Bool, true, false, ◌||◌, List, [], ◌∷◌, ◌++◌, refl, sym, ap, ◌∙◌, arith}
use Rattle.std.specs.Prelude.{All, AllPairs, ◌==◌, nat_lt}
use Rattle.std.specs.List.{count_by, list_any}
use Rattle.std.proofs.lemmas.Bool.{cases_lt, cond-true, eq-eqb, lt-ltb}
use Rattle.std.proofs.lemmas.List.Elements.{All-nil, All-cons}
use Rattle.std.proofs.lemmas.List.Kept.{AllPairs-cons}
use Rattle.std.proofs.lemmas.List.Sums.{sum_by-cons, sum_by-append}
use Rattle.volume_model.specs.Sound.{is_among}
use Rattle.volume_laws.proofs.Counting.{one_if, of_one_among}
use Rattle.change_laws.specs.Hands.{times}

pub times-append : (b : ℕ) (xs ys : List ℕ) → times b (xs ++ ys) ≡ times b xs + times b ys
times-append b xs ys = sum_by-append (λ m. one_if (m == b)) xs ys

pub times-cons : (b x : ℕ) (xs : List ℕ) → times b (x ∷ xs) ≡ one_if (x == b) + times b xs
times-cons b x xs = sum_by-cons (λ m. one_if (m == b)) x xs

-- a test finds one where it counts one
pub any_counted : {X : Type 0} (p : X → Bool) (xs : List X) → list_any p xs ≡ nat_lt 0 (count_by p xs)
any_counted p [] = refl
any_counted {X} p (x ∷ xs) =
    let step : count_by p (x ∷ xs) ≡ one_if (p x) + count_by p xs = sum_by-cons (λ (y : X). one_if (p y)) x xs in
    let mine : (b : Bool) → (b || list_any p xs) ≡ nat_lt 0 (one_if b + count_by p xs) = λ b.
    elim b as (λ b. (b || list_any p xs) ≡ nat_lt 0 (one_if b + count_by p xs)) [
      | true ↦ sym (lt-ltb 0 (1 + count_by p xs) (omega arith))
      | false ↦ any_counted p xs ∙ ap (λ (k : ℕ). nat_lt 0 k) (let same : count_by p xs ≡ 0 + count_by p xs = omega arith in same)
    ] in
    mine (p x) ∙ ap (λ (k : ℕ). nat_lt 0 k) (sym step)

-- two counts of which one or the other finds one
pub either_counted : (a b : ℕ) → (nat_lt 0 a || nat_lt 0 b) ≡ nat_lt 0 (a + b)
either_counted a b = elim (cases_lt 0 a) [
  | inl some ↦
      ap (λ (t : Bool). t || nat_lt 0 b) (lt-ltb 0 a some) ∙ sym (lt-ltb 0 (a + b) (omega (arith, some)))
  | inr none ↦
      let zero : a ≡ 0 = omega (arith, none) in
      ap (λ (k : ℕ). nat_lt 0 k || nat_lt 0 b) zero ∙ ap (λ (k : ℕ). nat_lt 0 k) (let same : b ≡ a + b = omega (arith, zero) in same)
]

pub among_counted : (b : ℕ) (numbers : List ℕ) → is_among b numbers ≡ nat_lt 0 (times b numbers)
among_counted b numbers = any_counted (λ m. m == b) numbers

-- what holds of each of these numbers holds of one that stands there
pub holds_of : (P : ℕ → Type 0) (numbers : List ℕ) (b : ℕ) → All P numbers → 1 ≤ times b numbers → P b
holds_of P numbers b each some = of_one_among b numbers P each (among_counted b numbers ∙ lt-ltb 0 (times b numbers) (omega (arith, some)))

-- and what holds of each number that stands there holds of all
pub holds_of_all : (P : ℕ → Type 0) (numbers : List ℕ) → ((b : ℕ) → 1 ≤ times b numbers → P b) → All P numbers
holds_of_all P [] each = All-nil P
holds_of_all P (x ∷ numbers) each =
    let here : one_if (x == x) ≡ 1 = cond-true (x == x) 1 0 (eq-eqb x x refl) in
    All-cons P x numbers (each x (omega (arith, times-cons x x numbers, here)))
    (holds_of_all P numbers (λ b some. each b (omega (arith, times-cons b x numbers, some))))

-- the same of what has this number as its key
pub holds_by : {X : Type 0} (key : X → ℕ) (P : ℕ → Type 0) (xs : List X) → ((b : ℕ) → 1 ≤ count_by (λ x. key x == b) xs → P b) → All (λ x. P (key x)) xs
holds_by {X} key P [] each = All-nil (λ (x : X). P (key x))
holds_by {X} key P (x ∷ xs) each =
    let step : (b : ℕ) → count_by (λ y. key y == b) (x ∷ xs) ≡ one_if (key x == b) + count_by (λ y. key y == b) xs = λ b. sum_by-cons (λ (y : X). one_if (key y == b)) x xs in
    let here : one_if (key x == key x) ≡ 1 = cond-true (key x == key x) 1 0 (eq-eqb (key x) (key x) refl) in
    All-cons (λ (y : X). P (key y)) x xs (each (key x) (omega (arith, step (key x), here)))
    (holds_by key P xs (λ b some. each b (omega (arith, step b, some))))

-- no two are the same where each stands there once at most
pub apart_if_once : (numbers : List ℕ) → ((b : ℕ) → times b numbers ≤ 1) → AllPairs (λ x y. x ≢ y) numbers
apart_if_once [] once = λ i j d less inside. absurd (omega (arith, inside))
apart_if_once (x ∷ numbers) once =
    let others : All (λ y. x ≢ y) numbers = holds_of_all (λ y. x ≢ y) numbers (λ b some same.
    let here : one_if (x == b) ≡ 1 = cond-true (x == b) 1 0 (eq-eqb x b same) in
    absurd (omega (arith, times-cons b x numbers, here, some, once b))) in
    AllPairs-cons (λ x y. x ≢ y) x numbers others (apart_if_once numbers (λ b. let all = once b in omega (arith, times-cons b x numbers, all)))
