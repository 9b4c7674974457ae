-- The blocks that a file loses were claimed before, and of these the pointer block alone held metadata.
use Rattle.std.proofs.Common.{◌≡◌, ◌<◌, ◌≤◌, inl, inr, ℕ, zero, suc, ◌+◌, ◌-◌, eqb, Bool, true, false, not, cond, List, [], ◌∷◌, ◌++◌, map, slice_index, Some, refl, sym, ap, subst, ◌∙◌, arith}
use Rattle.std.specs.Prelude.{All, nat_le, nat_lt}
use Rattle.std.specs.List.{filter, range_with_len}
use Rattle.std.proofs.lemmas.Bool.{cases_Bool, not-true, true≢false}
use Rattle.std.proofs.lemmas.List.Elements.{All-nil, All-cons, All-append}
use Rattle.lufs_base.specs.declared.geometry.Geometry.{Geometry}
use Rattle.volume_model.specs.declared.hand.Hand.{Hand}
use Rattle.volume_model.specs.declared.inode.Dinode.{Dinode}
use Rattle.volume_model.specs.Format.{Image, Blocks, block, is_file}
use Rattle.volume_model.specs.Sound.{Single, UsedInode, NamedPointer, reading_of, used_at, is_claimed, index_claim, pointer_claim, metadata_length, IsStored}
use Rattle.volume_laws.proofs.ClaimFacts.{claims_its_block, index_claimed}
use Rattle.volume_laws.proofs.NumberChange.{its_pointer}
use Rattle.meta_store.specs.declared.change.Freed.{Freed}
use Rattle.draft_laws.proofs.FreedInode.{pointer_metadata, index_metadata}
use Rattle.file_map.specs.Freed.{WasClaimed}
use Rattle.file_map.specs.Cut.{lost_block, lost_from, lost}

-- what holds of each index with a block holds of all that are made of these
each_index : (P : Freed → Type 0) (h : ℕ → ℕ) (a n : ℕ) → ((k : ℕ) → k < a + n → eqb (h k) 0 ≡ false → P (record { block = record { 0 = h k }; meta = false }))
    → All P (map (λ k. record { block = record { 0 = h k }; meta = false }) (filter (λ k. not (eqb (h k) 0)) (range_with_len a n)))
each_index P h a zero each = All-nil P
each_index P h a (suc n) each =
    let f : ℕ → Freed = λ k. record { block = record { 0 = h k }; meta = false } in
    let more : List ℕ = filter (λ k. not (eqb (h k) 0)) (range_with_len (a + 1) n) in
    let rest = each_index P h (a + 1) n (λ k below some. each k (omega (arith, below)) some) in
    elim (cases_Bool (eqb (h a) 0)) [
      | inl none ↦ subst (λ (t : Bool). All P (map f (cond (not t) (a ∷ more) more))) (sym none) rest
      | inr some ↦ subst (λ (t : Bool). All P (map f (cond (not t) (a ∷ more) more))) (sym some) (All-cons P (f a) (map f more) (each a (omega arith) some) rest)
    ]

-- and of one block
if_some : (P : Freed → Type 0) (number : ℕ) → (eqb number 0 ≡ false → P (record { block = record { 0 = number }; meta = true })) → All P (lost_block true number)
if_some P number each = elim (cases_Bool (eqb number 0)) [
  | inl none ↦ subst (λ (t : Bool). All P (cond t [] (record { block = record { 0 = number }; meta = true } ∷ []))) (sym none) (All-nil P)
  | inr some ↦
      subst (λ (t : Bool). All P (cond t [] (record { block = record { 0 = number }; meta = true } ∷ []))) (sym some)
      (All-cons P (record { block = record { 0 = number }; meta = true }) [] (each some) (All-nil P))
]

if_low : (P : Freed → Type 0) (low : Bool) (list : List Freed) → All P list → All P (cond low list [])
if_low P true list all = all
if_low P false list all = All-nil P

module _ (g : Geometry) (base : Image) (start : List Hand) (i : ℕ) (u : UsedInode) (began : IsStored g (reading_of g (block base)) start) (used : used_at (reading_of g (block base)) i ≡ Some u)
    (file : is_file u.inode.mode ≡ true) where
  abbrev before : Blocks
  before = block base

  pointer_was : eqb (slice_index u.inode.indirect 0) 0 ≡ false → WasClaimed g base (record { block = record { 0 = slice_index u.inode.indirect 0 }; meta = true })
  pointer_was some = record {
    claimed = claims_its_block (reading_of g before) (pointer_claim i (record { name = Single; block = slice_index u.inode.indirect 0 })) (its_pointer g before i u used some);
    metadata = sym (pointer_metadata g before start i u began used some);
  }

  index_was : (k : ℕ) → eqb (slice_index u.numbers k) 0 ≡ false → WasClaimed g base (record { block = record { 0 = slice_index u.numbers k }; meta = false })
  index_was k some = record {
    claimed = claims_its_block (reading_of g before) (index_claim i u k) (index_claimed (reading_of g before) i u k used some);
    metadata = sym (index_metadata g before start i u began used k some ∙ ap not file);
  }

  pub lost_were : (d : Dinode) (numbers : List ℕ) (kept past : ℕ) → d.indirect ≡ u.inode.indirect → kept ≤ past → ((k : ℕ) → k < past → slice_index numbers k ≡ slice_index u.numbers k)
      → All (WasClaimed g base) (lost d numbers kept past)
  lost_were d numbers kept past indirect order same =
      let P : Freed → Type 0 = WasClaimed g base in
      All-append P (cond (nat_le kept 12) (lost_block true (slice_index d.indirect 0)) []) (lost_from numbers kept past)
      (if_low P (nat_le kept 12) (lost_block true (slice_index d.indirect 0))
      (if_some P (slice_index d.indirect 0) (λ some.
      let is : slice_index d.indirect 0 ≡ slice_index u.inode.indirect 0 = ap (λ (l : List ℕ). slice_index l 0) indirect in
      subst (λ (n : ℕ). P (record { block = record { 0 = n }; meta = true })) (sym is) (pointer_was (ap (λ (n : ℕ). eqb n 0) (sym is) ∙ some)))))
      (each_index P (λ k. slice_index numbers k) kept (past - kept) (λ k below some.
      let is = same k (omega (arith, below, order)) in
      subst (λ (n : ℕ). P (record { block = record { 0 = n }; meta = false })) (sym is) (index_was k (ap (λ (n : ℕ). eqb n 0) (sym is) ∙ some))))
