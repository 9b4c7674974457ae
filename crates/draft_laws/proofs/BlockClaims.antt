-- An inode gets one more block at an index, and perhaps a pointer block: which claims it keeps, and which come.
use Rattle.std.proofs.Common.{◌≡◌, ◌≢◌, ◌<◌, ◌⊎◌, inl, inr, ℕ, eqb, false, List, length, set, slice_index, sym, ap, ◌∙◌, subst}
use Rattle.std.specs.List.{Contains}
use Rattle.std.proofs.lemmas.Bool.{cases_eq, eq-eqb, true≢false}
use Rattle.std.proofs.lemmas.List.{get_or-set_same, get_or-set_other}
use Rattle.volume_model.specs.Sound.{UsedInode, NamedPointer, AtIndex, Claim, claims_in}
use Rattle.draft_laws.proofs.ClaimLists.{pointer_in, index_in, each_claim}

module _ (May : ℕ → Type 0) (i k b : ℕ) (u v : UsedInode) (numbers : v.numbers ≡ set u.numbers k b) (empty : slice_index u.numbers k ≡ 0) (within : k < length u.numbers)
    (may : May b) (old_pointers : (p : NamedPointer) → Contains u.pointers p → eqb p.block 0 ≡ false → Contains v.pointers p)
    (new_pointers : (p : NamedPointer) → Contains v.pointers p → eqb p.block 0 ≡ false → Contains u.pointers p ⊎ May p.block) where
  pub number_here : slice_index v.numbers k ≡ b
  number_here = ap (λ (l : List ℕ). slice_index l k) numbers ∙ get_or-set_same u.numbers k b 0 within

  number_else : (index : ℕ) → index ≢ k → slice_index v.numbers index ≡ slice_index u.numbers index
  number_else index away = ap (λ (l : List ℕ). slice_index l index) numbers ∙ get_or-set_other u.numbers k index b 0 away

  pub kept_claims : (claim : Claim) → Contains (claims_in i u) claim → Contains (claims_in i v) claim
  kept_claims =
      each_claim (λ claim. Contains (claims_in i v) claim) i u
      (λ p here some. pointer_in i v p (old_pointers p here some) some)
      (λ index some. elim (cases_eq index k) [
        | inl same ↦ absurd (true≢false (sym (eq-eqb (slice_index u.numbers index) 0 (ap (slice_index u.numbers) same ∙ empty)) ∙ some))
        | inr away ↦
            let is = number_else index away in
            let there = index_in i v index (ap (λ (m : ℕ). eqb m 0) is ∙ some) in
            subst (λ (m : ℕ). Contains (claims_in i v) (record { block = m; inode = i; part = AtIndex index })) is there
      ])

  pub added_claims : (claim : Claim) → Contains (claims_in i v) claim → Contains (claims_in i u) claim ⊎ May claim.block
  added_claims =
      each_claim (λ claim. Contains (claims_in i u) claim ⊎ May claim.block) i v
      (λ p here some. elim (new_pointers p here some) [
        | inl old ↦ inl (pointer_in i u p old some)
        | inr new ↦ inr new
      ])
      (λ index some. elim (cases_eq index k) [
        | inl same ↦ inr (subst May (sym (ap (slice_index v.numbers) same ∙ number_here)) may)
        | inr away ↦
            let is = number_else index away in
            let there = index_in i u index (sym (ap (λ (m : ℕ). eqb m 0) is) ∙ some) in
            inl (subst (λ (m : ℕ). Contains (claims_in i u) (record { block = m; inode = i; part = AtIndex index })) (sym is) there)
      ])
