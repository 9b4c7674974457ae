-- How many blocks are wanted for one chunk more, by how many chunks there are.
use Rattle.std.proofs.Common.{◌≡◌, ◌≢◌, ◌<◌, ◌≤◌, ℕ, zero, suc, ◌+◌, ◌-◌, ◌*◌, ◌/◌, ◌%◌, Bool, true, false, ◌||◌, if◌then◌else◌, List, [], ◌∷◌, length, map, refl, sym, ap, ◌∙◌, arith}
use Rattle.std.specs.Prelude.{nat_lt}
use Rattle.std.specs.List.{list_any, range_with_len}
use Rattle.std.proofs.lemmas.Bool.{lt-ltb, le-ltb}
use Rattle.volume_model.specs.declared.directory.Slot.{Slot}
use Rattle.volume_model.specs.Sound.{directory_blocks}

or-true : (b : Bool) → (b || true) ≡ true
or-true true = refl
or-true false = refl

-- one of these passes the test
pub any_there : (p : List Slot → Bool) (h : ℕ → List Slot) (a n k : ℕ) → k < n → p (h (a + k)) ≡ true → list_any p (map h (range_with_len a n)) ≡ true
any_there p h a zero k below so = absurd (omega (arith, below))
any_there p h a (suc n) zero below so =
    let here : a + 0 ≡ a = omega arith in
    ap (λ (b : Bool). b || list_any p (map h (range_with_len (a + 1) n))) (ap (λ (j : ℕ). p (h j)) (sym here) ∙ so)
any_there p h a (suc n) (suc k) below so =
    let on : a + suc k ≡ a + 1 + k = omega arith in
    ap (λ (b : Bool). p (h a) || b) (any_there p h (a + 1) n k (omega (arith, below)) (ap (λ (j : ℕ). p (h j)) (sym on) ∙ so)) ∙ or-true (p (h a))

-- none of these does
pub any_nowhere : (p : List Slot → Bool) (h : ℕ → List Slot) (a n : ℕ) → ((k : ℕ) → a ≤ k → k < a + n → p (h k) ≡ false) → list_any p (map h (range_with_len a n)) ≡ false
any_nowhere p h a zero none = refl
any_nowhere p h a (suc n) none =
    ap (λ (b : Bool). b || list_any p (map h (range_with_len (a + 1) n))) (none a (omega arith) (omega arith))
    ∙ any_nowhere p h (a + 1) n (λ k from below. none k (omega (arith, from)) (omega (arith, below)))

-- the blocks of a directory with so many chunks, by whether it has a pointer block
blocks_by : (n a : ℕ) → (n + 7) / 8 ≡ a → directory_blocks n ≡ a + (if nat_lt 12 a then 1 else 0)
blocks_by n a is = ap (λ (b : ℕ). b + (if nat_lt 12 b then 1 else 0)) is

few : (a : ℕ) → a ≤ 12 → a + (if nat_lt 12 a then 1 else 0) ≡ a
few a low = ap (λ (b : Bool). a + (if b then 1 else 0)) (le-ltb 12 a low) ∙ (let same : a + 0 ≡ a = omega arith in same)

many : (a : ℕ) → 12 < a → a + (if nat_lt 12 a then 1 else 0) ≡ a + 1
many a high = ap (λ (b : Bool). a + (if b then 1 else 0)) (lt-ltb 12 a high)

-- in its last block it needs none
pub none_wanted : (n : ℕ) → n % 8 ≢ 0 → directory_blocks (n + 1) - directory_blocks n ≡ 0
none_wanted n part =
    let a = (n + 7) / 8 in
    let next = blocks_by (n + 1) a (omega (arith, part)) in
    let now = blocks_by n a refl in
    omega (arith, next, now)

pub one_wanted : (n k : ℕ) → n ≡ 8 * k → k < 12 → directory_blocks (n + 1) - directory_blocks n ≡ 1
one_wanted n k is low =
    let next = blocks_by (n + 1) (k + 1) (omega (arith, is)) ∙ few (k + 1) (omega (arith, low)) in
    let now = blocks_by n k (omega (arith, is)) ∙ few k (omega (arith, low)) in
    omega (arith, next, now)

pub two_wanted : (n : ℕ) → n ≡ 96 → directory_blocks (n + 1) - directory_blocks n ≡ 2
two_wanted n is = ap (λ (m : ℕ). directory_blocks (m + 1) - directory_blocks m) is

pub one_by_pointer : (n j : ℕ) → n ≡ 8 * (12 + j) → 0 < j → directory_blocks (n + 1) - directory_blocks n ≡ 1
one_by_pointer n j is some =
    let next = blocks_by (n + 1) (12 + j + 1) (omega (arith, is)) ∙ many (12 + j + 1) (omega (arith, some)) in
    let now = blocks_by n (12 + j) (omega (arith, is)) ∙ many (12 + j) (omega (arith, some)) in
    omega (arith, next, now)
