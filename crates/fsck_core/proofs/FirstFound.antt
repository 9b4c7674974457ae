-- What a search over the first numbers found.
use Rattle.std.proofs.Common.{◌≡◌, ◌<◌, ◌≤◌, ℕ, zero, suc, ◌+◌, Bool, true, false, cond, find, Option, Some, None, refl, sym, ap, inl, inr, ◌∙◌, arith, MatchOption}
use Rattle.std.proofs.lemmas.Bool.{cases_Bool, cases_eq, true≢false}
use Rattle.std.specs.List.{range_with_len}

-- found is the first number from a on, before end, that passes the test
abbrev pub IsFirst : (ℕ → Bool) → (a end : ℕ) → Option ℕ → Type 0
IsFirst p a end found = MatchOption found ((k : ℕ) → a ≤ k → k < end → p k ≡ false) (λ i. (a ≤ i) × (i < end) × (p i ≡ true) × ((k : ℕ) → a ≤ k → k < i → p k ≡ false))

found_here : (p : ℕ → Bool) (len a end : ℕ) (found : Option ℕ) → end ≡ a + suc len → p a ≡ true → IsFirst p a end found → found ≡ Some a
found_here p len a end None size here is = absurd (true≢false (sym here ∙ is a (omega arith) (omega arith)))
found_here p len a end (Some i) size here is = elim (cases_eq i a) [
  | inl same ↦ ap (λ (k : ℕ). Some k) same
  | inr later ↦ absurd (true≢false (sym here ∙ is.3 a (omega arith) (omega (arith, is.0, later))))
]

found_later : (p : ℕ → Bool) (a end : ℕ) (found : Option ℕ) → p a ≡ false → IsFirst p a end found → IsFirst p (a + 1) end found
found_later p a end None none is = λ k low high. is k (omega arith) high
found_later p a end (Some i) none is =
    let other : i ≡ a → ⊥ = λ same. true≢false (sym is.2 ∙ ap p same ∙ none) in
    (omega (arith, is.0, other), is.1, is.2, λ k low high. is.3 k (omega arith) high)

pub found_first : (p : ℕ → Bool) (len a end : ℕ) (found : Option ℕ) → end ≡ a + len → IsFirst p a end found → found ≡ find p (range_with_len a len)
found_first p zero a end None size is = refl
found_first p zero a end (Some i) size is = absurd (omega (arith, is.0, is.1))
found_first p (suc len) a end found size is = elim (cases_Bool (p a)) [
  | inl here ↦ found_here p len a end found size here is ∙ sym (ap (λ (b : Bool). cond b (Some a) (find p (range_with_len (a + 1) len))) here)
  | inr not_here ↦ found_first p len (a + 1) end found (omega arith) (found_later p a end found not_here is) ∙ sym (ap (λ (b : Bool). cond b (Some a) (find p (range_with_len (a + 1) len))) not_here)
]

-- A search found the first, where its test agrees with another one on the numbers that it went through.
pub same_first : (p : ℕ → Bool) (Yes No : ℕ → Type 0) (a end : ℕ) (found : Option ℕ) → ((k : ℕ) → a ≤ k → k < end → Yes k → p k ≡ true) → ((k : ℕ) → a ≤ k → k < end → No k → p k ≡ false)
    → MatchOption found ((k : ℕ) → a ≤ k → k < end → No k) (λ i. (a ≤ i) × (i < end) × Yes i × ((k : ℕ) → a ≤ k → k < i → No k)) → IsFirst p a end found
same_first p Yes No a end None passes fails is = λ k low high. fails k low high (is k low high)
same_first p Yes No a end (Some i) passes fails is = (is.0, is.1, passes i is.0 is.1 is.2, λ k low high. fails k low (omega (arith, is.1)) (is.3 k low high))
