-- How many bits are clear where one bit changes.
use Rattle.std.proofs.Common.{◌≡◌, ℕ, zero, suc, ◌+◌, ◌<◌, ◌≤◌, Bool, true, false, if◌then◌else◌, List, inl, inr, refl, sym, ap, ◌∙◌, arith}
use Rattle.std.proofs.lemmas.Bool.{cases_eq}
use Rattle.volume_model.specs.Format.{bit_at, clear_bits, HasBit}

counts_same : (m n : ℕ) (a b : Bool) → m ≡ n → a ≡ b → m + (if a then 0 else 1) ≡ n + (if b then 0 else 1)
counts_same m n a b front here = ap (λ (k : ℕ). k + (if a then 0 else 1)) front ∙ ap (λ (c : Bool). n + (if c then 0 else 1)) here

counts_less : (m n : ℕ) (a b : Bool) → m ≡ n → a ≡ true → b ≡ false → m + (if a then 0 else 1) + 1 ≡ n + (if b then 0 else 1)
counts_less m n true false front now was = omega arith
counts_less m n true true front now was = absurd (cc)
counts_less m n false b front now was = absurd (cc)

counts_kept : (m n : ℕ) (a b : Bool) → m + 1 ≡ n → a ≡ b → m + (if a then 0 else 1) + 1 ≡ n + (if b then 0 else 1)
counts_kept m n true true front here = omega arith
counts_kept m n false false front here = omega arith
counts_kept m n true false front here = absurd (cc)
counts_kept m n false true front here = absurd (cc)

-- the bits before the one that changed count as they did
same_before : (place n : ℕ) (value : Bool) (old new : List ℕ) → HasBit place value old new → n ≤ place → clear_bits new n ≡ clear_bits old n
unfolding clear_bits
same_before place zero value old new put below = refl
same_before place (suc n) value old new put below =
    counts_same (clear_bits new n) (clear_bits old n) (bit_at new n) (bit_at old n) (same_before place n value old new put (omega arith))
    (put.others n (λ same. omega arith))

-- a clear bit that was set counts no more
pub one_less : (place n : ℕ) (old new : List ℕ) → HasBit place true old new → bit_at old place ≡ false → place < n
    → clear_bits new n + 1 ≡ clear_bits old n
unfolding clear_bits
one_less place zero old new put was below = absurd (omega arith)
one_less place (suc n) old new put was below = elim (cases_eq n place) [
  | inl same ↦
      counts_less (clear_bits new n) (clear_bits old n) (bit_at new n) (bit_at old n) (same_before place n true old new put (omega arith))
      (ap (λ (k : ℕ). bit_at new k) same ∙ put.bit) (ap (λ (k : ℕ). bit_at old k) same ∙ was)
  | inr differs ↦
      counts_kept (clear_bits new n) (clear_bits old n) (bit_at new n) (bit_at old n) (one_less place n old new put was (omega arith))
      (put.others n differs)
]

-- a set bit that was cleared counts one more
pub one_more : (place n : ℕ) (old new : List ℕ) → HasBit place false old new → bit_at old place ≡ true → place < n
    → clear_bits new n ≡ clear_bits old n + 1
one_more place n old new put was below =
    sym (one_less place n new old record { bit = was; others = λ j apart. sym (put.others j apart) } put.bit below)
