-- Numbers of a range that pass a test: counted, filtered and found.
use Rattle.std.proofs.Common.{◌≡◌, ◌<◌, ◌≤◌, ℕ, zero, suc, ◌+◌, Bool, true, false, cond, List, [], ◌∷◌, ◌++◌, length, take, Option, Some, None, refl, sym, ap, ◌∙◌, arith}
use Rattle.std.specs.Prelude.{if◌then◌else◌}
use Rattle.std.specs.List.{count_by, filter, find, range_with_len}
use Rattle.std.proofs.lemmas.List.{length-append, length-take, append-nil, take_all, take-append-le}
use Rattle.std.proofs.lemmas.List.Elements.{filter-append}
use Rattle.volume_laws.proofs.Counting.{one_if, sum_of_range}

-- a range is its front and the rest
split_range : (a n m : ℕ) → range_with_len a (n + m) ≡ range_with_len a n ++ range_with_len (a + n) m
split_range a zero m = let at : a + 0 ≡ a = omega arith in let more : 0 + m ≡ m = omega arith in
    ap (λ (k : ℕ). range_with_len a k) more ∙ ap (λ (b : ℕ). range_with_len b m) (sym at)
split_range a (suc n) m =
    let at : a + 1 + n ≡ a + suc n = omega arith in
    let count : suc n + m ≡ suc (n + m) = omega arith in
    ap (λ (k : ℕ). range_with_len a k) count ∙ ap (λ (ks : List ℕ). a ∷ ks) (split_range (a + 1) n m ∙ ap (λ (b : ℕ). range_with_len (a + 1) n ++ range_with_len b m) at)

range_more : (n : ℕ) → range_with_len 0 (n + 1) ≡ range_with_len 0 n ++ n ∷ []
range_more n =
    let at : 0 + n ≡ n = omega arith in
    split_range 0 n 1 ∙ ap (λ (b : ℕ). range_with_len 0 n ++ b ∷ []) at

-- with the next number
pub count_more : (p : ℕ → Bool) (n : ℕ) → count_by p (range_with_len 0 (n + 1)) ≡ count_by p (range_with_len 0 n) + one_if (p n)
count_more p n =
    let next : n + 1 ≡ suc n = omega arith in
    ap (λ (k : ℕ). count_by p (range_with_len 0 k)) next ∙ sum_of_range (λ b. one_if (p b)) (suc n)
    ∙ ap (λ (k : ℕ). k + one_if (p n)) (sym (sum_of_range (λ b. one_if (p b)) n))

filter_more : (p : ℕ → Bool) (n : ℕ) → filter p (range_with_len 0 (n + 1)) ≡ filter p (range_with_len 0 n) ++ cond (p n) (n ∷ []) []
filter_more p n = ap (filter p) (range_more n) ∙ filter-append p (range_with_len 0 n) (n ∷ [])

-- the first n of the numbers that pass: with one more, where there are fewer, and the same else
pub first_more : (p : ℕ → Bool) (n b : ℕ) (xs : List ℕ) → xs ≡ take n (filter p (range_with_len 0 b)) → length xs < n → p b ≡ true
    → xs ++ b ∷ [] ≡ take n (filter p (range_with_len 0 (b + 1)))
first_more p n b xs is few passes =
    let before = filter p (range_with_len 0 b) in
    let size : length xs ≡ length (take n before) = ap (λ (ys : List ℕ). length ys) is in
    let fits : length before ≤ n = omega (arith, size, few, length-take n before) in
    let all : xs ≡ before = is ∙ take_all n before fits in
    let room : length (before ++ b ∷ []) ≤ n = omega (arith, few, ap (λ (ys : List ℕ). length ys) all, length-append before (b ∷ [])) in
    let next : filter p (range_with_len 0 (b + 1)) ≡ before ++ b ∷ [] = filter_more p b ∙ ap (λ (t : Bool). before ++ cond t (b ∷ []) []) passes in
    ap (λ (ys : List ℕ). ys ++ b ∷ []) all ∙ sym (take_all n (before ++ b ∷ []) room) ∙ ap (take n) (sym next)

pub first_full : (p : ℕ → Bool) (n b : ℕ) (xs : List ℕ) → xs ≡ take n (filter p (range_with_len 0 b)) → n ≤ length xs
    → xs ≡ take n (filter p (range_with_len 0 (b + 1)))
first_full p n b xs is full =
    let before = filter p (range_with_len 0 b) in
    let size : length xs ≡ length (take n before) = ap (λ (ys : List ℕ). length ys) is in
    let many : n ≤ length before = omega (arith, size, full, length-take n before) in
    is ∙ sym (take-append-le n before (cond (p b) (b ∷ []) []) many) ∙ ap (take n) (sym (filter_more p b))

pub first_fails : (p : ℕ → Bool) (n b : ℕ) (xs : List ℕ) → xs ≡ take n (filter p (range_with_len 0 b)) → p b ≡ false
    → xs ≡ take n (filter p (range_with_len 0 (b + 1)))
first_fails p n b xs is fails =
    let before = filter p (range_with_len 0 b) in
    let next : filter p (range_with_len 0 (b + 1)) ≡ before =
    filter_more p b ∙ ap (λ (t : Bool). before ++ cond t (b ∷ []) []) fails ∙ append-nil before in
    is ∙ ap (take n) (sym next)

-- the first number of a range that passes, and none
pub find_first : (p : ℕ → Bool) (a n k : ℕ) → ((j : ℕ) → a ≤ j → j < a + k → p j ≡ false) → k < n → p (a + k) ≡ true
    → find p (range_with_len a n) ≡ Some (a + k)
find_first p a zero k fail less passes = absurd (omega (arith, less))
find_first p a (suc n) zero fail less passes =
    let at : a + 0 ≡ a = omega arith in
    ap (λ (t : Bool). if t then Some a else find p (range_with_len (a + 1) n)) (sym (ap p at) ∙ passes) ∙ ap (λ (b : ℕ). Some b) (sym at)
find_first p a (suc n) (suc k) fail less passes =
    let at : a + 1 + k ≡ a + suc k = omega arith in
    ap (λ (t : Bool). if t then Some a else find p (range_with_len (a + 1) n)) (fail a (omega arith) (omega arith))
    ∙ find_first p (a + 1) n k (λ j low high. fail j (omega (arith, low)) (omega (arith, high))) (omega (arith, less)) (ap p at ∙ passes)
    ∙ ap (λ (b : ℕ). Some b) at

pub find_none : (p : ℕ → Bool) (a n : ℕ) → ((j : ℕ) → a ≤ j → j < a + n → p j ≡ false) → find p (range_with_len a n) ≡ None
find_none p a zero fail = refl
find_none p a (suc n) fail =
    ap (λ (t : Bool). if t then Some a else find p (range_with_len (a + 1) n)) (fail a (omega arith) (omega arith))
    ∙ find_none p (a + 1) n (λ j low high. fail j (omega (arith, low)) (omega (arith, high)))

-- two tests that agree in the range
pub filter_alike : (p q : ℕ → Bool) (a n : ℕ) → ((b : ℕ) → a ≤ b → b < a + n → p b ≡ q b) → filter p (range_with_len a n) ≡ filter q (range_with_len a n)
filter_alike p q a zero same = refl
filter_alike p q a (suc n) same =
    ap (λ (t : Bool). cond t (a ∷ filter p (range_with_len (a + 1) n)) (filter p (range_with_len (a + 1) n))) (same a (omega arith) (omega arith))
    ∙ ap (λ (xs : List ℕ). cond (q a) (a ∷ xs) xs) (filter_alike p q (a + 1) n (λ b low high. same b (omega (arith, low)) (omega (arith, high))))

pub find_alike : (p q : ℕ → Bool) (a n : ℕ) → ((b : ℕ) → a ≤ b → b < a + n → p b ≡ q b) → find p (range_with_len a n) ≡ find q (range_with_len a n)
find_alike p q a zero same = refl
find_alike p q a (suc n) same =
    ap (λ (t : Bool). if t then Some a else find p (range_with_len (a + 1) n)) (same a (omega arith) (omega arith))
    ∙ ap (λ (o : Option ℕ). if q a then Some a else o) (find_alike p q (a + 1) n (λ b low high. same b (omega (arith, low)) (omega (arith, high))))
