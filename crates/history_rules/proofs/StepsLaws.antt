-- Steps up that lead to the root do so in fewer steps than there are inodes.
use Rattle.std.proofs.Common.{◌≡◌, ◌≢◌, ◌≤◌, ◌<◌, ℕ, zero, suc, ◌+◌, ◌-◌, ◌==◌, Bool, true, false, List, [], ◌∷◌, refl, sym, ap, inl, inr, ◌∙◌, arith, sum_by}
use Rattle.std.proofs.lemmas.Bool.{cases_Bool, cases_eq, or_cases, or_left, or_right, true≢false, eqb-true, eqb-false, eq-eqb, ne_eqb}
use Rattle.std.proofs.lemmas.List.Sums.{sum_by-cons}
use Rattle.std.specs.List.{list_any, count_by, range_with_len}
use Rattle.volume_model.specs.Sound.{Names, parent_at, ancestor_of}
use Rattle.history_rules.proofs.SlotRuleLaws.{one_if}

pub any_in_range : (p : ℕ → Bool) (len a k : ℕ) → a ≤ k → k < a + len → p k ≡ true → list_any p (range_with_len a len) ≡ true
any_in_range p zero a k low high is = absurd (omega arith)
any_in_range p (suc len) a k low high is = elim (cases_eq a k) [
  | inl same ↦ or_left (p a) (list_any p (range_with_len (a + 1) len)) (ap p same ∙ is)
  | inr apart ↦ or_right (p a) (list_any p (range_with_len (a + 1) len)) (any_in_range p len (a + 1) k (omega arith) (omega arith) is)
]

-- what holds of none of the first n numbers
pub none_in_range : (p : ℕ → Bool) (n : ℕ) → list_any p (range_with_len 0 n) ≡ false → (i : ℕ) → i < n → p i ≡ false
none_in_range p n none i less = elim (cases_Bool (p i)) [
  | inl holds ↦ absurd (true≢false (sym (any_in_range p n 0 i (omega arith) (omega arith) holds) ∙ none))
  | inr fails ↦ fails
]

pub in_range_any : (p : ℕ → Bool) (len a : ℕ) → list_any p (range_with_len a len) ≡ true → (k : ℕ) × (p k ≡ true)
in_range_any p zero a is = absurd (true≢false (sym is))
in_range_any p (suc len) a is = elim (or_cases (p a) (list_any p (range_with_len (a + 1) len)) is) [
  | inl here ↦ (a, here)
  | inr later ↦ in_range_any p len (a + 1) later
]

pub sum_none : (f : ℕ → ℕ) (len a : ℕ) → ((k : ℕ) → a ≤ k → k < a + len → f k ≡ 0) → sum_by f (range_with_len a len) ≡ 0
sum_none f zero a none = refl
sum_none f (suc len) a none =
    omega (arith, sum_by-cons f a (range_with_len (a + 1) len), none a (omega arith) (omega arith), sum_none f len (a + 1) (λ k low high. none k (omega arith) (omega arith)))

-- a number below n is one of those below n
counted_once : (v len a : ℕ) → a ≤ v → v < a + len → count_by (λ k. v == k) (range_with_len a len) ≡ 1
counted_once v zero a low high = absurd (omega arith)
counted_once v (suc len) a low high =
    let at = sum_by-cons (λ (k : ℕ). one_if (v == k)) a (range_with_len (a + 1) len) in
    elim (cases_eq v a) [
      | inl same ↦
          let here : one_if (v == a) ≡ 1 = ap one_if (eq-eqb v a same) in
          let none = sum_none (λ (k : ℕ). one_if (v == k)) len (a + 1) (λ k less more. ap one_if (ne_eqb v k (λ e. omega arith))) in
          omega (arith, at, here, none)
      | inr apart ↦
          let here : one_if (v == a) ≡ 0 = ap one_if (ne_eqb v a apart) in
          omega (arith, at, here, counted_once v len (a + 1) (omega arith) (omega arith))
    ]

sum_both : (f h : ℕ → ℕ) (ks : List ℕ) → sum_by (λ k. f k + h k) ks ≡ sum_by f ks + sum_by h ks
sum_both f h [] = refl
sum_both f h (k ∷ ks) = omega (arith, sum_by-cons (λ (j : ℕ). f j + h j) k ks, sum_by-cons f k ks, sum_by-cons h k ks, sum_both f h ks)

at_most_length : (f : ℕ → ℕ) → ((k : ℕ) → f k ≤ 1) → (len a : ℕ) → sum_by f (range_with_len a len) ≤ len
at_most_length f few zero a = omega arith
at_most_length f few (suc len) a = omega (arith, sum_by-cons f a (range_with_len (a + 1) len), few a, at_most_length f few len (a + 1))

module _ (f : ℕ → ℕ) (n : ℕ) where
  -- how often a value is taken from index a on
  abbrev hits : (a len v : ℕ) → ℕ
  hits a len v = count_by (λ t. f t == v) (range_with_len a len)

  all_hits : (len a : ℕ) → ((t : ℕ) → a ≤ t → t < a + len → f t < n) → sum_by (hits a len) (range_with_len 0 n) ≡ len
  all_hits zero a low = sum_none (λ v. 0) n 0 (λ k less more. refl)
  all_hits (suc len) a low =
      let split : sum_by (hits a (suc len)) (range_with_len 0 n) ≡ sum_by (λ v. one_if (f a == v) + hits (a + 1) len v) (range_with_len 0 n) =
      λ x. sum_by (λ v. sum_by-cons (λ (t : ℕ). one_if (f t == v)) a (range_with_len (a + 1) len) x) (range_with_len 0 n) in
      omega (
        arith,
        split,
        sum_both (λ v. one_if (f a == v)) (hits (a + 1) len) (range_with_len 0 n),
        counted_once (f a) n 0 (omega arith) (omega (arith, low a (omega arith) (omega arith))),
        all_hits len (a + 1) (λ t less more. low t (omega arith) (omega arith)),
      )

  module _ (d : ℕ) (apart : (s t : ℕ) → s < t → t < d → f s ≢ f t) where
    once : (len a v : ℕ) → a + len ≤ d → hits a len v ≤ 1
    once zero a v fits = omega arith
    once (suc len) a v fits =
        let at = sum_by-cons (λ (t : ℕ). one_if (f t == v)) a (range_with_len (a + 1) len) in
        elim (cases_Bool (f a == v)) [
          | inl same ↦
              let is : f a ≡ v = eqb-true (f a) v same in
              let here : one_if (f a == v) ≡ 1 = ap one_if same in
              let none = sum_none (λ (t : ℕ). one_if (f t == v)) len (a + 1) (λ t less more. ap one_if (ne_eqb (f t) v (λ e. apart a t (omega arith) (omega arith) (is ∙ sym e)))) in
              omega (arith, at, here, none)
          | inr differ ↦
              let here : one_if (f a == v) ≡ 0 = ap one_if differ in
              omega (arith, at, here, once len (a + 1) v (omega arith))
        ]

    -- different values below n are no more than n
    pub few : ((t : ℕ) → t < d → f t < n) → d ≤ n
    few low = omega (arith, all_hits d 0 (λ t less more. low t (omega arith)), at_most_length (hits 0 d) (λ v. once d 0 v (omega arith)) n 0)

module _ (m : Names) (k : ℕ) where
  further : (t s j : ℕ) → ancestor_of m (t + s) j ≡ ancestor_of m s (ancestor_of m t j)
  further zero s j = let e : zero + s ≡ s = omega arith in ap (λ (x : ℕ). ancestor_of m x j) e
  further (suc t) s j = let e : suc t + s ≡ suc (t + s) = omega arith in ap (λ (x : ℕ). ancestor_of m x j) e ∙ further t s (parent_at m j)

  abbrev IsLeast : ℕ → Type 0
  IsLeast e = (ancestor_of m e k ≡ 2) × ((t : ℕ) → t < e → ancestor_of m t k ≢ 2)

  least : (fuel a : ℕ) → ancestor_of m (a + fuel) k ≡ 2 → ((t : ℕ) → t < a → ancestor_of m t k ≢ 2) → (e : ℕ) × IsLeast e
  least zero a is before = let e : a ≡ a + zero = omega arith in (a, (ap (λ (x : ℕ). ancestor_of m x k) e ∙ is, before))
  least (suc fuel) a is before = elim (cases_Bool (ancestor_of m a k == 2)) [
    | inl holds ↦ (a, (eqb-true (ancestor_of m a k) 2 holds, before))
    | inr fails ↦
        let e : a + 1 + fuel ≡ a + suc fuel = omega arith in
        least fuel (a + 1) (ap (λ (x : ℕ). ancestor_of m x k) e ∙ is) (λ t less. elim (cases_eq t a) [
          | inl same ↦ (λ two. eqb-false (ancestor_of m a k) 2 fails (ap (λ (x : ℕ). ancestor_of m x k) (sym same) ∙ two))
          | inr other ↦ before t (omega arith)
        ])
  ]

  -- the least number of steps passes no inode twice
  no_twice : (e : ℕ) → IsLeast e → (s t : ℕ) → s < t → t < e + 1 → ancestor_of m s k ≢ ancestor_of m t k
  no_twice e is s t less within same =
      let whole : t + (e - t) ≡ e = omega arith in
      let short : ancestor_of m (s + (e - t)) k ≡ 2 =
      further s (e - t) k ∙ ap (ancestor_of m (e - t)) same ∙ sym (further t (e - t) k) ∙ ap (λ (x : ℕ). ancestor_of m x k) whole ∙ is.0 in
      is.1 (s + (e - t)) (omega arith) short

  pub in_few_steps : (n steps : ℕ) → ancestor_of m steps k ≡ 2 → ((t : ℕ) → ancestor_of m t k < n) → (e : ℕ) × (e < n) × (ancestor_of m e k ≡ 2)
  in_few_steps n steps is within =
      let e : 0 + steps ≡ steps = omega arith in
      let first = least steps 0 (ap (λ (x : ℕ). ancestor_of m x k) e ∙ is) (λ t less. absurd (omega arith)) in
      let bound = few (λ (t : ℕ). ancestor_of m t k) n (first.0 + 1) (no_twice first.0 first.1) (λ t less. within t) in
      (first.0, omega (arith, bound), first.1.0)
