-- Counting: sums over the numbers below a bound, and how often a number stands in a list.
use Rattle.std.proofs.Common.{◌≡◌, ℕ, zero, suc, ◌+◌, ◌-◌, ◌*◌, ◌<◌, ◌≤◌, inl, inr, ◌≢◌, Bool, true, false, not, ◌&&◌, ◌||◌, cond, List, [], ◌∷◌, length, map, refl, sym, ap, subst, ◌∙◌, arith}
use Rattle.std.specs.Prelude.{All, AllPairs, sum_by, ◌==◌}
use Rattle.std.specs.List.{count_by, list_any, range_with_len}
use Rattle.std.proofs.lemmas.Bool.{cases_Bool, cases_lt, cond-true, cond-false, eqb-true, eq-eqb, ne_eqb, or_parts, or_cases, false≢true, false_from_ne_true}
use Rattle.std.proofs.lemmas.List.Elements.{All-head, All-tail}
use Rattle.std.proofs.lemmas.List.Sums.{sum_by-cons}
use Rattle.std.proofs.lemmas.List.Folds.{fold-map}
use Rattle.volume_model.specs.Sound.{is_among}

-- the sum of f over the first n numbers
abbrev pub total : (ℕ → ℕ) → ℕ → ℕ
total f zero = 0
total f (suc n) = total f n + f n

-- 1 where the test passes
abbrev pub one_if : Bool → ℕ
one_if test = cond test 1 0

-- how often b stands in these numbers
abbrev pub times : ℕ → List ℕ → ℕ
times b numbers = count_by (λ m. m == b) numbers

pub total_same : (f h : ℕ → ℕ) (n : ℕ) → ((i : ℕ) → i < n → f i ≡ h i) → total f n ≡ total h n
total_same f h zero same = refl
total_same f h (suc n) same =
    omega (arith, total_same f h n (λ i below. same i (omega (arith, below))), same n (omega arith))

pub total_and : (f h : ℕ → ℕ) (n : ℕ) → total (λ i. f i + h i) n ≡ total f n + total h n
total_and f h zero = refl
total_and f h (suc n) = omega (arith, total_and f h n)

pub total_split : (f : ℕ → ℕ) (a n : ℕ) → total f (a + n) ≡ total f a + total (λ i. f (a + i)) n
total_split f a zero =
    let at : a + 0 ≡ a = omega arith in
    omega (arith, ap (total f) at)
total_split f a (suc n) =
    let at : a + suc n ≡ suc (a + n) = omega arith in
    omega (arith, ap (total f) at, total_split f a n)

pub total_constant : (f : ℕ → ℕ) (c n : ℕ) → ((i : ℕ) → i < n → f i ≡ c) → total f n ≡ n * c
total_constant f c zero is = omega arith
total_constant f c (suc n) is =
    let row : suc n * c ≡ n * c + c = omega arith in
    omega (arith, row, total_constant f c n (λ i below. is i (omega (arith, below))), is n (omega arith))

-- the same by n rows of k
pub total_rows : (f : ℕ → ℕ) (n k : ℕ) → total f (n * k) ≡ total (λ i. total (λ j. f (i * k + j)) k) n
total_rows f zero k = ap (total f) (let none : zero * k ≡ 0 = omega arith in none)
total_rows f (suc n) k =
    let at : suc n * k ≡ n * k + k = omega arith in
    ap (total f) at ∙ total_split f (n * k) k ∙ ap (λ (s : ℕ). s + total (λ j. f (n * k + j)) k) (total_rows f n k)

sum_from : (f : ℕ → ℕ) (a n : ℕ) → sum_by f (range_with_len a n) ≡ total (λ i. f (a + i)) n
sum_from f a zero = refl
sum_from f a (suc n) =
    let here : f (a + 0) ≡ f a = ap f (let at : a + 0 ≡ a = omega arith in at) in
    let next : total (λ i. f ((a + 1) + i)) n ≡ total (λ i. f (a + (1 + i))) n =
    total_same (λ i. f ((a + 1) + i)) (λ i. f (a + (1 + i))) n (λ i below. ap f (let at : (a + 1) + i ≡ a + (1 + i) = omega arith in at)) in
    let first : total (λ i. f (a + i)) (1 + n) ≡ (0 + f (a + 0)) + total (λ i. f (a + (1 + i))) n = total_split (λ i. f (a + i)) 1 n in
    let whole : total (λ i. f (a + i)) (suc n) ≡ total (λ i. f (a + i)) (1 + n) =
    ap (total (λ i. f (a + i))) (let at : suc n ≡ 1 + n = omega arith in at) in
    omega (arith, sum_by-cons f a (range_with_len (a + 1) n), sum_from f (a + 1) n, here, next, first, whole)

pub sum_of_range : (f : ℕ → ℕ) (n : ℕ) → sum_by f (range_with_len 0 n) ≡ total f n
sum_of_range f n = sum_from f 0 n ∙ total_same (λ i. f (0 + i)) f n (λ i below. ap f (let at : 0 + i ≡ i = omega arith in at))

-- what is 0 from a on and from b on has one sum up to a and up to b
stops : (f : ℕ → ℕ) (a b : ℕ) → ((i : ℕ) → a ≤ i → f i ≡ 0) → a ≤ b → total f b ≡ total f a
stops f a b past before =
    let at : a + (b - a) ≡ b = omega (arith, before) in
    let none : total (λ i. f (a + i)) (b - a) ≡ (b - a) * 0 = total_constant (λ i. f (a + i)) 0 (b - a) (λ i below. past (a + i) (omega arith)) in
    omega (arith, ap (total f) at, total_split f a (b - a), none)

pub total_stops : (f : ℕ → ℕ) (a b : ℕ) → ((i : ℕ) → a ≤ i → f i ≡ 0) → ((i : ℕ) → b ≤ i → f i ≡ 0) → total f a ≡ total f b
total_stops f a b past behind = elim (cases_lt a b) [
  | inl less ↦ sym (stops f a b past (omega (arith, less)))
  | inr more ↦ stops f b a behind more
]

pub sum_of_map : {X Y : Type 0} (f : Y → ℕ) (h : X → Y) (xs : List X) → sum_by f (map h xs) ≡ sum_by (λ x. f (h x)) xs
sum_of_map f h xs = fold-map (λ sum y. sum + f y) h 0 xs

pub any_of_map : {X Y : Type 0} (p : Y → Bool) (h : X → Y) (xs : List X) → list_any p (map h xs) ≡ list_any (λ x. p (h x)) xs
any_of_map p h [] = refl
any_of_map p h (x ∷ xs) = ap (λ (b : Bool). p (h x) || b) (any_of_map p h xs)

-- a number below n is met once among the numbers below n
met_none : (x n : ℕ) → n ≤ x → total (λ b. one_if (x == b)) n ≡ 0
met_none x n past =
    let none : total (λ b. one_if (x == b)) n ≡ n * 0 =
    total_constant (λ b. one_if (x == b)) 0 n (λ b below. cond-false (x == b) 1 0 (ne_eqb x b (λ same. omega (arith, same, below, past)))) in
    omega (arith, none)

met_once : (x n : ℕ) → x < n → total (λ b. one_if (x == b)) n ≡ 1
met_once x zero below = absurd (omega (arith, below))
met_once x (suc n) below = elim (cases_lt x n) [
  | inl less ↦
      let other : one_if (x == n) ≡ 0 = cond-false (x == n) 1 0 (ne_eqb x n (λ same. omega (arith, same, less))) in
      omega (arith, met_once x n less, other)
  | inr more ↦
      let here : one_if (x == n) ≡ 1 = cond-true (x == n) 1 0 (eq-eqb x n (omega (arith, below, more))) in
      omega (arith, met_none x n more, here)
]

-- how often each number below n stands in a list of such numbers, in all: its length
pub all_times : (numbers : List ℕ) (n : ℕ) → All (λ x. x < n) numbers → total (λ b. times b numbers) n ≡ length numbers
all_times [] n below = let none : total (λ b. 0) n ≡ n * 0 = total_constant (λ b. 0) 0 n (λ b less. refl) in omega (arith, none)
all_times (x ∷ numbers) n below =
    let rest = all_times numbers n (All-tail (λ y. y < n) x numbers below) in
    let first = met_once x n (All-head (λ y. y < n) x numbers below) in
    let each : total (λ b. times b (x ∷ numbers)) n ≡ total (λ b. one_if (x == b) + times b numbers) n =
    total_same (λ b. times b (x ∷ numbers)) (λ b. one_if (x == b) + times b numbers) n (λ b less. sum_by-cons (λ m. one_if (m == b)) x numbers) in
    omega (arith, each, total_and (λ b. one_if (x == b)) (λ b. times b numbers) n, first, rest)

-- a number that is not among these stands there no time, and one that is at least once
pub times_none : (b : ℕ) (numbers : List ℕ) → is_among b numbers ≡ false → times b numbers ≡ 0
times_none b [] away = refl
times_none b (x ∷ numbers) away =
    let parts = or_parts (x == b) (is_among b numbers) away in
    let other : one_if (x == b) ≡ 0 = cond-false (x == b) 1 0 parts.0 in
    omega (arith, sum_by-cons (λ m. one_if (m == b)) x numbers, other, times_none b numbers parts.1)

pub times_some : (b : ℕ) (numbers : List ℕ) → is_among b numbers ≡ true → 1 ≤ times b numbers
times_some b [] among = absurd (false≢true among)
times_some b (x ∷ numbers) among = elim (or_cases (x == b) (is_among b numbers) among) [
  | inl here ↦
      let one : one_if (x == b) ≡ 1 = cond-true (x == b) 1 0 here in
      omega (arith, sum_by-cons (λ m. one_if (m == b)) x numbers, one)
  | inr there ↦ omega (arith, sum_by-cons (λ m. one_if (m == b)) x numbers, times_some b numbers there)
]

-- what holds of each of these numbers holds of one that is among them
pub of_one_among : (b : ℕ) (numbers : List ℕ) (P : ℕ → Type 0) → All P numbers → is_among b numbers ≡ true → P b
of_one_among b [] P each among = absurd (false≢true among)
of_one_among b (x ∷ numbers) P each among = elim (or_cases (x == b) (is_among b numbers) among) [
  | inl here ↦ subst P (eqb-true x b here) (All-head P x numbers each)
  | inr there ↦ of_one_among b numbers P (All-tail P x numbers each) there
]

-- where no two are the same, each stands there once at most
pub times_apart : (b : ℕ) (numbers : List ℕ) → AllPairs (λ x y. x ≢ y) numbers → times b numbers ≤ 1
times_apart b [] apart = omega arith
times_apart b (x ∷ numbers) apart = elim (cases_Bool (x == b)) [
  | inl here ↦
      let others : All (λ y. x ≢ y) numbers = λ k d less. apart 0 (suc k) d (omega arith) (omega (arith, less)) in
      let none = times_none b numbers (false_from_ne_true (is_among b numbers) (λ among.
      of_one_among b numbers (λ y. x ≢ y) others among (eqb-true x b here))) in
      let one : one_if (x == b) ≡ 1 = cond-true (x == b) 1 0 here in
      omega (arith, sum_by-cons (λ m. one_if (m == b)) x numbers, one, none)
  | inr away ↦
      let rest = times_apart b numbers (λ i j d less inside. apart (suc i) (suc j) d (omega (arith, less)) (omega (arith, inside))) in
      let other : one_if (x == b) ≡ 0 = cond-false (x == b) 1 0 away in
      omega (arith, sum_by-cons (λ m. one_if (m == b)) x numbers, other, rest)
]

left_at : (passes among : Bool) (k : ℕ) → (among ≡ true → passes ≡ true) → (among ≡ true → k ≡ 1) → (among ≡ false → k ≡ 0)
    → one_if (passes && not among) + k ≡ one_if passes
left_at true true k pass once none = omega (arith, once refl)
left_at true false k pass once none = omega (arith, none refl)
left_at false true k pass once none = absurd (false≢true (pass refl))
left_at false false k pass once none = omega (arith, none refl)

-- Of the numbers below n that pass, those that are not in a list of such numbers without repeats: they and the list are all.
pub left_over : (p : ℕ → Bool) (numbers : List ℕ) (n : ℕ) → All (λ x. x < n) numbers → All (λ x. p x ≡ true) numbers
    → ((b : ℕ) → p b ≡ true → times b numbers ≤ 1)
    → total (λ b. one_if (p b && not (is_among b numbers))) n + length numbers ≡ total (λ b. one_if (p b)) n
left_over p numbers n below pass once =
    let each : total (λ b. one_if (p b && not (is_among b numbers)) + times b numbers) n ≡ total (λ b. one_if (p b)) n =
    total_same (λ b. one_if (p b && not (is_among b numbers)) + times b numbers) (λ b. one_if (p b)) n (λ b less.
    left_at (p b) (is_among b numbers) (times b numbers)
    (of_one_among b numbers (λ x. p x ≡ true) pass)
    (λ among. omega (arith, once b (of_one_among b numbers (λ x. p x ≡ true) pass among), times_some b numbers among))
    (times_none b numbers)) in
    omega (arith, each, total_and (λ b. one_if (p b && not (is_among b numbers))) (λ b. times b numbers) n, all_times numbers n below)
