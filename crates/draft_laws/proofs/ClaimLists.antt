-- What an inode claims, by its pointer blocks and its numbers.
use Rattle.std.proofs.Common.{◌≡◌, ◌<◌, inl, inr, ℕ, eqb, false, not, List, ◌++◌, length, map, slice_index, sym, subst}
use Rattle.std.specs.Prelude.{slice_index_or}
use Rattle.std.specs.List.{All, Contains, range_with_len}
use Rattle.std.proofs.lemmas.Bool.{cases_lt, not_from_false, both_ways, eq-eqb}
use Rattle.std.proofs.lemmas.List.{get_or_past}
use Rattle.std.proofs.lemmas.List.Elements.{All-append, All-filter, All-contains, All-contains_itself, All-map, Contains-append_left, Contains-append_right}
use Rattle.volume_model.specs.Sound.{UsedInode, NamedPointer, Claim, index_claim, index_claims, pointer_claim, claims_in}
use Rattle.volume_laws.proofs.Members.{Contains_filter, Contains_map, Contains_range}
use Rattle.volume_laws.proofs.ClaimFacts.{by_index}
use Rattle.draft_laws.proofs.MetadataLengths.{placed_claim}

-- a pointer block whose number isn't 0 is claimed, and so is a number that isn't 0
pub pointer_in : (i : ℕ) (u : UsedInode) (p : NamedPointer) → Contains u.pointers p → eqb p.block 0 ≡ false → Contains (claims_in i u) (pointer_claim i p)
pointer_in i u p here some =
    Contains_filter (λ claim. not (eqb claim.block 0)) (map (pointer_claim i) u.pointers ++ index_claims i 0 u.numbers) (pointer_claim i p)
    (Contains-append_left (map (pointer_claim i) u.pointers) (index_claims i 0 u.numbers) (pointer_claim i p) (Contains_map (pointer_claim i) u.pointers p here))
    (not_from_false (eqb p.block 0) some)

number_within : (numbers : List ℕ) (index : ℕ) → eqb (slice_index numbers index) 0 ≡ false → index < length numbers
number_within numbers index some = elim (cases_lt index (length numbers)) [
  | inl within ↦ within
  | inr past ↦ absurd (both_ways (eqb (slice_index numbers index) 0) some (eq-eqb (slice_index numbers index) 0 (get_or_past numbers index 0 past)))
]

pub index_in : (i : ℕ) (u : UsedInode) (index : ℕ) → eqb (slice_index u.numbers index) 0 ≡ false → Contains (claims_in i u) (index_claim i u index)
index_in i u index some =
    let claim = index_claim i u index in
    let indexes = range_with_len 0 (length u.numbers) in
    let there : Contains (map (index_claim i u) indexes) claim =
    Contains_map (index_claim i u) indexes index (Contains_range (length u.numbers) index (number_within u.numbers index some)) in
    let here : Contains (index_claims i 0 u.numbers) claim = subst (λ (l : List Claim). Contains l claim) (sym (by_index i u)) there in
    Contains_filter (λ claim. not (eqb claim.block 0)) (map (pointer_claim i) u.pointers ++ index_claims i 0 u.numbers) claim
    (Contains-append_right (map (pointer_claim i) u.pointers) (index_claims i 0 u.numbers) claim here) (not_from_false (eqb (slice_index u.numbers index) 0) some)

-- what holds of these holds of each claim
module _ (P : Claim → Type 0) (i : ℕ) (u : UsedInode) (of_pointers : (p : NamedPointer) → Contains u.pointers p → eqb p.block 0 ≡ false → P (pointer_claim i p))
    (of_numbers : (index : ℕ) → eqb (slice_index u.numbers index) 0 ≡ false → P (index_claim i u index)) where
  abbrev Q : Claim → Type 0
  Q claim = eqb claim.block 0 ≡ false → P claim

  pointers_all : All Q (map (pointer_claim i) u.pointers)
  pointers_all = All-map Q (pointer_claim i) u.pointers (λ k d inside some. of_pointers (slice_index_or u.pointers k d) (All-contains_itself u.pointers k d inside) some)

  numbers_all : All Q (index_claims i 0 u.numbers)
  numbers_all =
      subst (λ (l : List Claim). All Q l) (sym (by_index i u))
      (All-map Q (index_claim i u) (range_with_len 0 (length u.numbers)) (λ k d inside some. of_numbers (slice_index_or (range_with_len 0 (length u.numbers)) k d) some))

  pub each_claim : (claim : Claim) → Contains (claims_in i u) claim → P claim
  each_claim claim here =
      All-contains Q (claims_in i u) claim
      (All-filter (λ claim. not (eqb claim.block 0)) Q (map (pointer_claim i) u.pointers ++ index_claims i 0 u.numbers)
      (All-append Q (map (pointer_claim i) u.pointers) (index_claims i 0 u.numbers) pointers_all numbers_all)) here (placed_claim i u claim here).some
