-- How often a block is among claimed ones, and the lowest that is there twice.
use Rattle.std.proofs.Common.{◌≡◌, ◌≢◌, ℕ, zero, suc, ◌+◌, ◌<◌, ◌≤◌, min, Bool, true, false, ◌==◌, ◌||◌, cond, List, [], ◌∷◌, ◌++◌, Option, Some, None, IfSome, inl, inr, refl, sym, ap, ◌∙◌, arith}
use Rattle.std.proofs.lemmas.Bool.{cases_eq, eq-eqb, ne_eqb, true≢false}
use Rattle.std.proofs.lemmas.List.Sums.{sum_by-cons, sum_by_push}
use Rattle.std.specs.List.{find, list_any, range_with_len}
use Rattle.std.specs.Option.{option_map_or}
use Rattle.fsck_core.specs.Claimed.{times}

-- how often block c is there, where b is one more
pub times-push_same : (b : ℕ) (blocks : List ℕ) → times b (blocks ++ b ∷ []) ≡ times b blocks + 1
times-push_same b blocks =
    sum_by_push (λ c. cond (c == b) 1 0) blocks b ∙ ap (λ (t : Bool). times b blocks + cond t 1 0) (eq-eqb b b refl)

pub times-push_other : (b c : ℕ) (blocks : List ℕ) → c ≢ b → times c (blocks ++ b ∷ []) ≡ times c blocks
times-push_other b c blocks apart =
    sum_by_push (λ a. cond (a == c) 1 0) blocks b
    ∙ ap (λ (t : Bool). times c blocks + cond t 1 0) (ne_eqb b c (λ same. apart (sym same))) ∙ omega arith

one_there : (here rest : Bool) (n m : ℕ) → m ≡ cond here 1 0 + n → (here || rest) ≡ true → (rest ≡ true → 1 ≤ n) → 1 ≤ m
one_there true rest n m sum there more = omega arith
one_there false rest n m sum there more = let least = more there in omega arith

-- a block that is there is there once or more
pub times-there : (b : ℕ) (blocks : List ℕ) → list_any (λ a. a == b) blocks ≡ true → 1 ≤ times b blocks
times-there b [] there = absurd (true≢false (sym there))
times-there b (a ∷ blocks) there =
    one_there (a == b) (list_any (λ a. a == b) blocks) (times b blocks) (times b (a ∷ blocks)) (sum_by-cons (λ c. cond (c == b) 1 0) a blocks) there (times-there b blocks)

none_there : (here rest : Bool) (n m : ℕ) → m ≡ cond here 1 0 + n → (here || rest) ≡ false → (rest ≡ false → n ≡ 0) → m ≡ 0
none_there true rest n m sum there more = absurd (true≢false there)
none_there false rest n m sum there more = let least = more there in omega arith

pub times-none : (b : ℕ) (blocks : List ℕ) → list_any (λ a. a == b) blocks ≡ false → times b blocks ≡ 0
times-none b [] there = refl
times-none b (a ∷ blocks) there =
    none_there (a == b) (list_any (λ a. a == b) blocks) (times b blocks) (times b (a ∷ blocks)) (sum_by-cons (λ c. cond (c == b) 1 0) a blocks) there (times-none b blocks)

-- tests that agree find the same
pub find_alike : (p q : ℕ → Bool) (numbers : List ℕ) → ((c : ℕ) → q c ≡ p c) → find q numbers ≡ find p numbers
find_alike p q [] same = refl
find_alike p q (c ∷ numbers) same =
    ap (λ (t : Bool). cond t (Some c) (find q numbers)) (same c) ∙ ap (λ (o : Option ℕ). cond (p c) (Some c) o) (find_alike p q numbers same)

above_one : (test : Bool) (a : ℕ) (rest : Option ℕ) → IfSome rest (λ c. a + 1 ≤ c) → IfSome (cond test (Some a) rest) (λ c. a ≤ c)
above_one true a rest above = omega arith
above_one false a None above = tt
above_one false a (Some c) above = omega (arith, above)

above_first : (p : ℕ → Bool) (a n : ℕ) → IfSome (find p (range_with_len a n)) (λ c. a ≤ c)
above_first p a zero = tt
above_first p a (suc n) = above_one (p a) a (find p (range_with_len (a + 1) n)) (above_first p (a + 1) n)

-- the lower of b and what was found, if anything was
abbrev lower : Option ℕ → ℕ → Option ℕ
lower found b = Some (option_map_or (λ a. min a b) found b)

at_first : (test : Bool) (a : ℕ) (rest : Option ℕ) → IfSome rest (λ c. a + 1 ≤ c) → Some a ≡ lower (cond test (Some a) rest) a
at_first true a rest above = let same : a ≡ min a a = omega arith in ap Some same
at_first false a None above = refl
at_first false a (Some c) above = let same : a ≡ min c a = omega (arith, above) in ap Some same

after_first : (test : Bool) (a b : ℕ) (rest found : Option ℕ) → a ≤ b → found ≡ lower rest b → cond test (Some a) found ≡ lower (cond test (Some a) rest) b
after_first true a b rest found below same = let least : a ≡ min a b = omega arith in ap Some least
after_first false a b rest found below same = same

-- what is found where b passes too, besides what passed before
pub find_lower : (p q : ℕ → Bool) (b : ℕ) → ((c : ℕ) → c ≢ b → q c ≡ p c) → q b ≡ true → (a n : ℕ) → a ≤ b → b < a + n
    → find q (range_with_len a n) ≡ lower (find p (range_with_len a n)) b
find_lower p q b others here a zero low high = absurd (omega arith)
find_lower p q b others here a (suc n) low high = elim (cases_eq a b) [
  | inl same ↦
      let passes : q a ≡ true = ap q same ∙ here in
      let first = at_first (p a) a (find p (range_with_len (a + 1) n)) (above_first p (a + 1) n) in
      ap (λ (t : Bool). cond t (Some a) (find q (range_with_len (a + 1) n))) passes ∙ first
      ∙ ap (λ (k : ℕ). lower (cond (p a) (Some a) (find p (range_with_len (a + 1) n))) k) same
  | inr apart ↦
      ap (λ (t : Bool). cond t (Some a) (find q (range_with_len (a + 1) n))) (others a apart)
      ∙ after_first (p a) a b (find p (range_with_len (a + 1) n)) (find q (range_with_len (a + 1) n)) low
      (find_lower p q b others here (a + 1) n (omega arith) (omega arith))
]
