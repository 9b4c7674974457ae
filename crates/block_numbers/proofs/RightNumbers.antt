-- What right numbers of an inode say of its blocks: all are blocks of the volume.
use Rattle.std.proofs.Common.{◌≡◌, ◌<◌, ◌≤◌, inl, inr, ℕ, zero, suc, ◌*◌, eqb, leb, Bool, true, false, not, ◌&&◌, List, [], ◌∷◌, ◌++◌, length, map, slice_index, refl, sym, ap, subst, ◌∙◌, arith}
use Rattle.std.specs.Prelude.{nat_lt}
use Rattle.std.specs.List.{Contains, list_all, range_with_len}
use Rattle.std.proofs.lemmas.Bool.{cases_Bool, cases_lt, and_parts, both_ways, eq-eqb, eqb-true, leb-true, ltb-true, lt-ltb, not_from_false}
use Rattle.std.proofs.lemmas.List.{get_or_past}
use Rattle.std.proofs.lemmas.List.Elements.{All-contains, Contains-append_left, Contains-append_right}
use Rattle.std.proofs.lemmas.List.Sums.{AllPass-from_list_all}
use Rattle.lufs_base.specs.Layout.{blocks_of, region_of}
use Rattle.lufs_base.specs.declared.geometry.Geometry.{Geometry}
use Rattle.volume_model.specs.declared.inode.Dinode.{Dinode}
use Rattle.volume_model.specs.Format.{Blocks, is_body, is_body_region, is_directory}
use Rattle.volume_model.specs.Sound.{UsedInode, NamedPointer, Single, Claim, claims_in, index_claim, index_claims, pointer_claim, used_inode, has_right_numbers}
use Rattle.volume_laws.proofs.Members.{Contains_head, Contains_range, Contains_map, Contains_filter}
use Rattle.volume_laws.proofs.ClaimFacts.{by_index}
use Rattle.volume_laws.proofs.FieldFacts.{fields_of_numbers}
use Rattle.volume_laws.proofs.NodeClaims.{sized}
use Rattle.volume_laws.proofs.SameReading.{not_file}

module _ (g : Geometry) (i : ℕ) (u : UsedInode) (right : has_right_numbers g i u ≡ true) (some : 0 < blocks_of g) where
  inside : (claim : Claim) → Contains (claims_in i u) claim → claim.block < blocks_of g
  inside claim here =
      let bodies = (fields_of_numbers g i u right).bodies in
      let body : is_body g claim.block ≡ true =
      All-contains (λ c. is_body g c.block ≡ true) (claims_in i u) claim (AllPass-from_list_all (λ c. is_body g c.block) (claims_in i u) bodies) here in
      ltb-true claim.block (blocks_of g) (and_parts (nat_lt claim.block (blocks_of g)) (is_body_region (region_of g claim.block)) body).0

  number_within : (index : ℕ) → eqb (slice_index u.numbers index) 0 ≡ false → index < length u.numbers
  number_within index nonzero = elim (cases_lt index (length u.numbers)) [
    | inl within ↦ within
    | inr past ↦ absurd (both_ways (eqb (slice_index u.numbers index) 0) nonzero (eq-eqb (slice_index u.numbers index) 0 (get_or_past u.numbers index 0 past)))
  ]

  claimed : (index : ℕ) → eqb (slice_index u.numbers index) 0 ≡ false → Contains (claims_in i u) (index_claim i u index)
  claimed index nonzero =
      let claim = index_claim i u index in
      let there : Contains (map (index_claim i u) (range_with_len 0 (length u.numbers))) claim =
      Contains_map (index_claim i u) (range_with_len 0 (length u.numbers)) index (Contains_range (length u.numbers) index (number_within index nonzero)) in
      let here : Contains (index_claims i 0 u.numbers) claim = subst (λ (l : List Claim). Contains l claim) (sym (by_index i u)) there in
      Contains_filter (λ claim. not (eqb claim.block 0)) (map (pointer_claim i) u.pointers ++ index_claims i 0 u.numbers) claim
      (Contains-append_right (map (pointer_claim i) u.pointers) (index_claims i 0 u.numbers) claim here) (not_from_false (eqb (slice_index u.numbers index) 0) nonzero)

  -- the number at each index
  pub numbers_inside : (index : ℕ) → slice_index u.numbers index < blocks_of g
  numbers_inside index = elim (cases_Bool (eqb (slice_index u.numbers index) 0)) [
    | inl none ↦ omega (arith, some, eqb-true (slice_index u.numbers index) 0 none)
    | inr nonzero ↦ inside (index_claim i u index) (claimed index nonzero)
  ]

  -- and that of each pointer block
  pub pointers_inside : (p : NamedPointer) → Contains u.pointers p → p.block < blocks_of g
  pointers_inside p among = elim (cases_Bool (eqb p.block 0)) [
    | inl none ↦ omega (arith, some, eqb-true p.block 0 none)
    | inr nonzero ↦
        inside (pointer_claim i p)
        (Contains_filter (λ claim. not (eqb claim.block 0)) (map (pointer_claim i) u.pointers ++ index_claims i 0 u.numbers) (pointer_claim i p)
        (Contains-append_left (map (pointer_claim i) u.pointers) (index_claims i 0 u.numbers) (pointer_claim i p) (Contains_map (pointer_claim i) u.pointers p among))
        (not_from_false (eqb p.block 0) nonzero))
  ]

-- that of the pointer block of a record
pub pointer_inside : (g : Geometry) (i : ℕ) (blocks : Blocks) (d : Dinode) → has_right_numbers g i (used_inode blocks d) ≡ true → 0 < blocks_of g
    → slice_index d.indirect 0 < blocks_of g
pointer_inside g i blocks d right some =
    pointers_inside g i (used_inode blocks d) right some (record { name = Single; block = slice_index d.indirect 0 }) (Contains_head (record { name = Single; block = slice_index d.indirect 0 }) [])
