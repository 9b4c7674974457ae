-- A reading with another state of one inode: what it says of the others, and its claims.
use Rattle.std.proofs.Common.{◌≡◌, ◌≢◌, ◌<◌, ◌≤◌, ℕ, zero, suc, ◌+◌, ◌-◌, List, [], ◌∷◌, ◌++◌, map, Option, ap, ◌∙◌, arith, refl}
use Rattle.std.specs.Prelude.{◌==◌}
use Rattle.std.specs.Option.{option_map_or, option_and_then}
use Rattle.std.specs.List.{flat_map, count_by, range_with_len}
use Rattle.std.proofs.lemmas.List.{length-set}
use Rattle.std.proofs.lemmas.Grind.{flat_map-append}
use Rattle.std.proofs.lemmas.List.Sums.{sum_by-append}
use Rattle.volume_model.specs.Sound.{Reading, UsedInode, InodeState, inodes_in, used_of, used_at, Claim, claims_in, claims_at, claims_of, claims_on}
use Rattle.volume_laws.specs.Changes.{with_state}
use Rattle.volume_laws.proofs.ListParts.{entry_set, entry_kept}
use Rattle.volume_laws.proofs.Counting.{one_if, sum_of_map}
use Rattle.change_laws.specs.Hands.{times}
use Rattle.change_laws.specs.Exchange.{claimed_blocks}

range_split : (a m n : ℕ) → range_with_len a (m + n) ≡ range_with_len a m ++ range_with_len (a + m) n
range_split a zero n =
    let none : zero + n ≡ n = omega arith in
    let start : a ≡ a + zero = omega arith in
    ap (range_with_len a) none ∙ ap (λ (b : ℕ). range_with_len b n) start
range_split a (suc m) n =
    let size : suc m + n ≡ suc (m + n) = omega arith in
    let start : (a + 1) + m ≡ a + suc m = omega arith in
    ap (range_with_len a) size ∙ ap (λ (l : List ℕ). a ∷ l) (range_split (a + 1) m n ∙ ap (λ (b : ℕ). range_with_len (a + 1) m ++ range_with_len b n) start)

flat_map_same : {X : Type 0} (f h : ℕ → List X) (a n : ℕ) → ((j : ℕ) → a ≤ j → j < a + n → f j ≡ h j) → flat_map f (range_with_len a n) ≡ flat_map h (range_with_len a n)
flat_map_same f h a zero same = refl
flat_map_same {X} f h a (suc n) same =
    let rest = flat_map_same f h (a + 1) n (λ j low high. same j (omega (arith, low)) (omega (arith, high))) in
    ap (λ (l : List X). l ++ flat_map f (range_with_len (a + 1) n)) (same a (omega arith) (omega arith))
    ∙ ap (λ (l : List X). h a ++ l) rest

-- a flat map over the first n numbers, where i is one of them
around : {X : Type 0} (f : ℕ → List X) (n i : ℕ) → i < n
    → flat_map f (range_with_len 0 n) ≡ flat_map f (range_with_len 0 i) ++ (f i ++ flat_map f (range_with_len (i + 1) (n - (i + 1))))
around {X} f n i within =
    let size : n ≡ i + suc (n - (i + 1)) = omega (arith, within) in
    let start : 0 + i ≡ i = omega arith in
    ap (λ (k : ℕ). flat_map f (range_with_len 0 k)) size
    ∙ ap (flat_map f) (range_split 0 i (suc (n - (i + 1))))
    ∙ flat_map-append f (range_with_len 0 i) (range_with_len (0 + i) (suc (n - (i + 1))))
    ∙ ap (λ (k : ℕ). flat_map f (range_with_len 0 i) ++ flat_map f (range_with_len k (suc (n - (i + 1))))) start

module _ (r : Reading) (i : ℕ) (state : InodeState) (within : i < inodes_in r) where
  pub used_changed : used_at (with_state r i state) i ≡ used_of state
  used_changed = ap (option_and_then used_of) (entry_set r.inodes i state within)

  pub used_other : (j : ℕ) → j ≢ i → used_at (with_state r i state) j ≡ used_at r j
  used_other j away = ap (option_and_then used_of) (entry_kept r.inodes i state j away)

  abbrev before : List Claim
  before = flat_map (claims_at r) (range_with_len 0 i)

  abbrev after : List Claim
  after = flat_map (claims_at r) (range_with_len (i + 1) (inodes_in r - (i + 1)))

  -- the claims are those of the other inodes, and its own between them
  claims_old : claims_of r ≡ before ++ (claims_at r i ++ after)
  unfolding claims_of
  claims_old = around (claims_at r) (inodes_in r) i within

  claims_new : claims_of (with_state r i state) ≡ before ++ (option_map_or (claims_in i) (used_of state) [] ++ after)
  unfolding claims_of
  claims_new =
      let s = with_state r i state in
      let size : inodes_in s ≡ inodes_in r = length-set r.inodes i state in
      let rest = inodes_in r - (i + 1) in
      let at : ℕ → Option UsedInode → List Claim = λ j o. option_map_or (claims_in j) o [] in
      let front = flat_map_same (claims_at s) (claims_at r) 0 i (λ j low high. ap (at j) (used_other j (λ same. omega (arith, high, same)))) in
      let back = flat_map_same (claims_at s) (claims_at r) (i + 1) rest (λ j low high. ap (at j) (used_other j (λ same. omega (arith, low, same)))) in
      ap (λ (n : ℕ). flat_map (claims_at s) (range_with_len 0 n)) size ∙ around (claims_at s) (inodes_in r) i within
      ∙ (λ x. front x ++ (at i (used_changed x) ++ back x))

  -- how often a block is claimed: less what inode i claimed, and more what it claims after
  pub claims_counted : (b : ℕ) → claims_on (with_state r i state) b + times b (claimed_blocks i (used_at r i))
      ≡ claims_on r b + times b (claimed_blocks i (used_of state))
  claims_counted b =
      let one : Claim → ℕ = λ claim. one_if (claim.block == b) in
      let count : List Claim → ℕ = count_by (λ claim. claim.block == b) in
      let old = claims_at r i in
      let new = option_map_or (claims_in i) (used_of state) [] in
      let numbers : (claims : List Claim) → times b (map (λ claim. claim.block) claims) ≡ count claims = sum_of_map (λ m. one_if (m == b)) (λ claim. claim.block) in
      omega (
        arith,
        ap count claims_old,
        ap count claims_new,
        sum_by-append one before (old ++ after),
        sum_by-append one old after,
        sum_by-append one before (new ++ after),
        sum_by-append one new after,
        numbers old,
        numbers new,
      )
