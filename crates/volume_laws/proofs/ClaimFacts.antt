-- What the inodes of a volume claim: of a sound volume body blocks, and each but once.
use Rattle.std.proofs.Common.{◌≡◌, ◌<◌, ◌≤◌, inl, inr, ℕ, eqb, true, false, not, List, [], ◌∷◌, ◌++◌, ◌+◌, suc, length, map, slice_index, Option, Some, None, sym, ap, ◌∙◌, subst, arith, refl}
use Rattle.std.specs.List.{All, Contains, range_with_len, slice_get}
use Rattle.std.specs.Option.{option_map_or, option_and_then}
use Rattle.std.proofs.lemmas.Bool.{cases_lt, and_parts, not-false, not_from_false, ltb-true, leb-false, eq-eqb, both_ways}
use Rattle.std.proofs.lemmas.List.{get_or_past}
use Rattle.std.proofs.lemmas.List.Elements.{All-nil, All-contains, Contains-append_left, Contains-append_right}
use Rattle.std.proofs.lemmas.List.FromFn.{length-map-range_with_len}
use Rattle.std.proofs.lemmas.List.Folds.{list_any_at}
use Rattle.std.proofs.lemmas.List.Sums.{AllPass-from_list_all}
use Rattle.std.proofs.lemmas.Option.{option_and_then_some, slice_get_within}
use Rattle.lufs_base.specs.Layout.{blocks_of, region_of}
use Rattle.lufs_base.specs.declared.geometry.Geometry.{Geometry}
use Rattle.volume_model.specs.declared.finding.Kind.TheVariants.{Fields, Twice}
use Rattle.volume_model.specs.Format.{Blocks, inodes_of, is_body, is_body_region}
use Rattle.volume_model.specs.declared.hand.Hand.{Hand}
use Rattle.volume_model.specs.Sound.{Reading, UsedInode, reading_of, state_at, used_of, used_at, Claim, claims_in, claims_at, claims_of, claims_on, is_claimed, index_claim, pointer_claim, has_right_fields, Sound, NamedPointer, AtIndex, index_claims, inodes_in}
use Rattle.volume_laws.proofs.Members.{entry_of_range, Contains_range, Contains_map, Contains_filter, Contains_flat_map, All_range, All_flat_map}
use Rattle.volume_laws.proofs.SoundRules.{rule_kept}
use Rattle.volume_laws.proofs.FieldFacts.{fields_of_test}

-- there is a state for each inode of the volume
pub length-inodes : (g : Geometry) (blocks : Blocks) → length (reading_of g blocks).inodes ≡ inodes_of g
unfolding reading_of
length-inodes g blocks = length-map-range_with_len (state_at g blocks) 0 (inodes_of g)

-- what a reading says of inode i
pub used_in_volume : (g : Geometry) (blocks : Blocks) (i : ℕ) → i < inodes_of g → used_at (reading_of g blocks) i ≡ used_of (state_at g blocks i)
unfolding reading_of
used_in_volume g blocks i below = ap (option_and_then used_of) (entry_of_range (state_at g blocks) (inodes_of g) i below)

pub used_within : (r : Reading) (i : ℕ) (u : UsedInode) → used_at r i ≡ Some u → i < length r.inodes
used_within r i u used = option_and_then_some used_of (slice_get r.inodes i) u used (λ state here is. slice_get_within r.inodes i state here)

-- what an inode in use claims is claimed
pub claimed_in : (r : Reading) (i : ℕ) (u : UsedInode) (claim : Claim) → used_at r i ≡ Some u → Contains (claims_in i u) claim → Contains (claims_of r) claim
unfolding claims_of
claimed_in r i u claim used here =
    let mine : Contains (claims_at r i) claim = subst (λ (o : Option UsedInode). Contains (option_map_or (claims_in i) o []) claim) (sym used) here in
    Contains_flat_map (claims_at r) (range_with_len 0 (length r.inodes)) i claim (Contains_range (length r.inodes) i (used_within r i u used)) mine

-- the block of a claim is claimed
pub claims_its_block : (r : Reading) (claim : Claim) → Contains (claims_of r) claim → is_claimed r claim.block ≡ true
claims_its_block r claim here =
    list_any_at (λ c. eqb c.block claim.block) (claims_of r) here.0 claim here.1
    (ap (λ (c : Claim). eqb c.block claim.block) here.2 ∙ eq-eqb claim.block claim.block refl)

-- the claims of the numbers from an index on, and what each number is
claims_from : (i at : ℕ) (numbers : List ℕ) (f : ℕ → ℕ) → ((k : ℕ) → k < length numbers → f (at + k) ≡ slice_index numbers k)
    → index_claims i at numbers ≡ map (λ index. record { block = f index; inode = i; part = AtIndex index }) (range_with_len at (length numbers))
claims_from i at [] f is = refl
claims_from i at (number ∷ numbers) f is =
    let first : number ≡ f at = sym (is 0 (omega arith)) ∙ ap f (let same : at + 0 ≡ at = omega arith in same) in
    let rest = claims_from i (at + 1) numbers f (λ k below.
    ap f (let same : (at + 1) + k ≡ at + suc k = omega arith in same) ∙ is (suc k) (omega (arith, below))) in
    λ t. record { block = first t; inode = i; part = AtIndex at } ∷ rest t

pub by_index : (i : ℕ) (u : UsedInode) → index_claims i 0 u.numbers ≡ map (index_claim i u) (range_with_len 0 (length u.numbers))
by_index i u = claims_from i 0 u.numbers (slice_index u.numbers) (λ k below. ap (slice_index u.numbers) (let same : 0 + k ≡ k = omega arith in same))

-- the number of a pointer block is claimed, if it isn't 0
pub pointer_claimed : (r : Reading) (i : ℕ) (u : UsedInode) (p : NamedPointer) → used_at r i ≡ Some u → Contains u.pointers p → eqb p.block 0 ≡ false
    → Contains (claims_of r) (pointer_claim i p)
pointer_claimed r i u p used among some =
    claimed_in r i u (pointer_claim i p) used
    (Contains_filter (λ claim. not (eqb claim.block 0)) (map (pointer_claim i) u.pointers ++ index_claims i 0 u.numbers) (pointer_claim i p)
    (Contains-append_left (map (pointer_claim i) u.pointers) (index_claims i 0 u.numbers) (pointer_claim i p) (Contains_map (pointer_claim i) u.pointers p among))
    (not_from_false (eqb p.block 0) some))

-- a number past the last one is 0
number_within : (numbers : List ℕ) (index : ℕ) → eqb (slice_index numbers index) 0 ≡ false → index < length numbers
number_within numbers index some = elim (cases_lt index (length numbers)) [
  | inl within ↦ within
  | inr past ↦ absurd (both_ways (eqb (slice_index numbers index) 0) some (eq-eqb (slice_index numbers index) 0 (get_or_past numbers index 0 past)))
]

-- the number at an index is claimed, if it isn't 0
pub index_claimed : (r : Reading) (i : ℕ) (u : UsedInode) (index : ℕ) → used_at r i ≡ Some u → eqb (slice_index u.numbers index) 0 ≡ false
    → Contains (claims_of r) (index_claim i u index)
index_claimed r i u index used some =
    let claim = index_claim i u index in
    let indexes = range_with_len 0 (length u.numbers) in
    let there : Contains (map (index_claim i u) indexes) claim =
    Contains_map (index_claim i u) indexes index (Contains_range (length u.numbers) index (number_within u.numbers index some)) in
    let here : Contains (index_claims i 0 u.numbers) claim = subst (λ (l : List Claim). Contains l claim) (sym (by_index i u)) there in
    claimed_in r i u claim used
    (Contains_filter (λ claim. not (eqb claim.block 0)) (map (pointer_claim i) u.pointers ++ index_claims i 0 u.numbers) claim
    (Contains-append_right (map (pointer_claim i) u.pointers) (index_claims i 0 u.numbers) claim here) (not_from_false (eqb (slice_index u.numbers index) 0) some))

-- what holds of the claims of an inode, if it is in use
pub all_claims_of : (P : Claim → Type 0) (i : ℕ) (o : Option UsedInode) → ((u : UsedInode) → o ≡ Some u → All P (claims_in i u)) → All P (option_map_or (claims_in i) o [])
all_claims_of P i None each = All-nil P
all_claims_of P i (Some u) each = each u refl

module _ (g : Geometry) (blocks : Blocks) (hands : List Hand) (sound : Sound g blocks hands) where
  pub right_fields : (i : ℕ) (u : UsedInode) → used_at (reading_of g blocks) i ≡ Some u → has_right_fields g i u ≡ true
  right_fields i u used =
      let within : i < inodes_in (reading_of g blocks) = used_within (reading_of g blocks) i u used in
      not-false (has_right_fields g i u)
      (subst (λ (o : Option UsedInode). option_map_or (λ u. not (has_right_fields g i u)) o false ≡ false) used (rule_kept sound Fields i (Contains_range (inodes_in (reading_of g blocks)) i within)))

  pub claims_are_body : All (λ claim. is_body g claim.block ≡ true) (claims_of (reading_of g blocks))
  unfolding claims_of
  claims_are_body =
      let r = reading_of g blocks in
      All_flat_map (λ claim. is_body g claim.block ≡ true) (claims_at r) (range_with_len 0 (length r.inodes))
      (All_range (λ i. All (λ claim. is_body g claim.block ≡ true) (claims_at r i)) (length r.inodes) (λ i within.
      all_claims_of (λ claim. is_body g claim.block ≡ true) i (used_at r i) (λ u used.
      AllPass-from_list_all (λ claim. is_body g claim.block) (claims_in i u) (fields_of_test g i u (right_fields i u used)).bodies)))

  pub claim_is_body : (claim : Claim) → Contains (claims_of (reading_of g blocks)) claim → is_body g claim.block ≡ true
  claim_is_body claim here = All-contains (λ c. is_body g c.block ≡ true) (claims_of (reading_of g blocks)) claim claims_are_body here

  pub claimed_once : (b : ℕ) → is_body g b ≡ true → claims_on (reading_of g blocks) b ≤ 1
  claimed_once b body =
      let below = ltb-true b (blocks_of g) (and_parts _ (is_body_region (region_of g b)) body).0 in
      let few = leb-false 2 (claims_on (reading_of g blocks) b) (rule_kept sound Twice b (Contains_range (blocks_of g) b below)) in
      omega (arith, few)
