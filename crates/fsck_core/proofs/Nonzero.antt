-- The numbers of an inode that aren't 0.
use Rattle.std.proofs.Common.{◌≡◌, ◌≢◌, ℕ, zero, suc, ◌+◌, ◌<◌, Bool, true, false, not, ◌&&◌, ◌||◌, ◌==◌, cond, List, [], ◌∷◌, ◌++◌, length, take, drop, slice_index, refl, sym, ap, ◌∙◌, arith}
use Rattle.std.proofs.lemmas.List.{append-nil, take-append-drop}
use Rattle.std.proofs.lemmas.List.Elements.{All-tail, All-head, filter_more}
use Rattle.std.proofs.lemmas.Bool.{and_parts, ne_eqb}
use Rattle.std.specs.List.{All, list_all}
use Rattle.lufs_base.specs.Fields.{are_zeros}
use Rattle.volume_model.specs.declared.inode.Dinode.{Dinode}
use Rattle.fsck_core.specs.Claimed.{nonzero, blocks_claimed}

tested_one : (none passes : Bool) (b : ℕ) (p : ℕ → Bool) (kept : List ℕ) (rest : Bool) → p b ≡ passes → list_all p kept ≡ rest
    → list_all p (cond (not none) (b ∷ kept) kept) ≡ ((none || passes) && rest)
tested_one true passes b p kept rest here others = others
tested_one false passes b p kept rest here others = ap (λ (t : Bool). t && list_all p kept) here ∙ ap (λ (t : Bool). passes && t) others

-- a test of each of them
pub list_all-nonzero : (p : ℕ → Bool) (numbers : List ℕ) → list_all p (nonzero numbers) ≡ list_all (λ b. b == 0 || p b) numbers
list_all-nonzero p [] = refl
list_all-nonzero p (b ∷ numbers) =
    tested_one (b == 0) (p b) b p (nonzero numbers) (list_all (λ b. b == 0 || p b) numbers) refl (list_all-nonzero p numbers)

none_of_zero : (none : Bool) (b : ℕ) (kept : List ℕ) → none ≡ true → kept ≡ [] → cond (not none) (b ∷ kept) kept ≡ []
none_of_zero true b kept is rest = rest
none_of_zero false b kept is rest = absurd (cc)

-- there are none among zeros
pub nonzero-zeros : (numbers : List ℕ) → are_zeros numbers ≡ true → nonzero numbers ≡ []
nonzero-zeros [] are = refl
nonzero-zeros (b ∷ numbers) are =
    let both = and_parts (b == 0) (are_zeros numbers) are in
    none_of_zero (b == 0) b (nonzero numbers) both.0 (nonzero-zeros numbers both.1)

kept_before : (test : Bool) (b : ℕ) (kept front rest : List ℕ) → kept ≡ front ++ rest → cond test (b ∷ kept) kept ≡ cond test (b ∷ front) front ++ rest
kept_before true b kept front rest same = ap (λ (l : List ℕ). b ∷ l) same
kept_before false b kept front rest same = same

pub nonzero-append : (xs ys : List ℕ) → nonzero (xs ++ ys) ≡ nonzero xs ++ nonzero ys
nonzero-append [] ys = refl
nonzero-append (b ∷ xs) ys = kept_before (not (b == 0)) b (nonzero (xs ++ ys)) (nonzero xs) (nonzero ys) (nonzero-append xs ys)

-- they are all in the front, if the rest is zeros
pub nonzero-take : (n : ℕ) (numbers : List ℕ) → are_zeros (drop n numbers) ≡ true → nonzero (take n numbers) ≡ nonzero numbers
nonzero-take n numbers are =
    sym (append-nil (nonzero (take n numbers))) ∙ ap (λ (l : List ℕ). nonzero (take n numbers) ++ l) (sym (nonzero-zeros (drop n numbers) are))
    ∙ sym (nonzero-append (take n numbers) (drop n numbers)) ∙ ap nonzero (take-append-drop n numbers)

-- with a pointer block there is one more
pub counted_without : (none : Bool) (pointer n : ℕ) (kept : List ℕ) → none ≡ true → n ≡ length kept → n ≡ length (cond (not none) (pointer ∷ kept) kept)
counted_without true pointer n kept is same = same
counted_without false pointer n kept is same = absurd (cc)

pub counted_with : (none : Bool) (pointer n : ℕ) (kept : List ℕ) → none ≡ false → n ≡ length kept → n + 1 ≡ length (cond (not none) (pointer ∷ kept) kept)
counted_with true pointer n kept is same = absurd (cc)
counted_with false pointer n kept is same = omega arith

-- one number more
pub blocks_claimed-more : (d : Dinode) (numbers : List ℕ) (k : ℕ) → k < length numbers
    → blocks_claimed d (take (k + 1) numbers) ≡ blocks_claimed d (take k numbers) ++ nonzero (slice_index numbers k ∷ [])
blocks_claimed-more d numbers k within =
    kept_before (not (slice_index d.indirect 0 == 0)) (slice_index d.indirect 0) (nonzero (take (k + 1) numbers)) (nonzero (take k numbers))
    (nonzero (slice_index numbers k ∷ [])) (filter_more (λ b. not (b == 0)) numbers k 0 within)

module _ (P : ℕ → Type 0) where
  head_of : (test : Bool) (b : ℕ) (kept : List ℕ) → test ≡ true → All P (cond test (b ∷ kept) kept) → P b
  head_of true b kept is all = All-head P b kept all
  head_of false b kept is all = absurd (cc)

  tail_of : (test : Bool) (b : ℕ) (kept : List ℕ) → All P (cond test (b ∷ kept) kept) → All P kept
  tail_of true b kept all = All-tail P b kept all
  tail_of false b kept all = all

  -- what holds of those that aren't 0, at an index
  pub nonzero_at : (numbers : List ℕ) (k : ℕ) → All P (nonzero numbers) → k < length numbers → slice_index numbers k ≢ 0 → P (slice_index numbers k)
  nonzero_at [] k all within held = absurd (omega arith)
  nonzero_at (b ∷ numbers) zero all within held = head_of (not (b == 0)) b (nonzero numbers) (ap not (ne_eqb b 0 held)) all
  nonzero_at (b ∷ numbers) (suc k) all within held =
      nonzero_at numbers k (tail_of (not (b == 0)) b (nonzero numbers) all) (omega arith) held
