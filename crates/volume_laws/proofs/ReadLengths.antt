-- What the lengths of what is read cover: each record, and each part of an inode at the block that it names.
use Rattle.std.proofs.Common.{◌≡◌, ◌<◌, ◌≤◌, inl, inr, ℕ, ◌+◌, eqb, true, false, cond, List, [], ◌∷◌, take, drop, Option, Some, None, sym, ap, ◌∙◌, arith}
use Rattle.std.specs.Prelude.{slice_index}
use Rattle.std.specs.List.{Contains}
use Rattle.std.specs.Option.{option_map_or}
use Rattle.std.proofs.Math.Nat.{le-max_left, le-max_right}
use Rattle.std.proofs.lemmas.Bool.{cond-true, cond-false, lt-ltb, eq-eqb}
use Rattle.std.proofs.lemmas.List.{take-take, drop-take}
use Rattle.lufs_base.specs.Layout.{blocks_of, region_of}
use Rattle.lufs_base.specs.declared.geometry.Geometry.{Geometry}
use Rattle.volume_model.specs.Format.{is_file}
use Rattle.volume_model.specs.Sound.{UsedInode, Reading, used_at, Claim, claims_of, index_claim, pointer_claim, NamedPointer, claim_length, metadata_claim_length, part_length, is_of_file, index_length, greatest_on, record_length, length_of_records, read_length, metadata_length}
use Rattle.volume_laws.proofs.Members.{Contains_cases}
use Rattle.volume_laws.proofs.ClaimFacts.{index_claimed, pointer_claimed}

-- a part of a common front
pub same_front : (m n : ℕ) (x y : List ℕ) → take n x ≡ take n y → m ≤ n → take m x ≡ take m y
same_front m n x y same short = sym (take-take m n x short) ∙ ap (take m) same ∙ take-take m n y short

pub same_part : (at k n : ℕ) (x y : List ℕ) → take n x ≡ take n y → at + k ≤ n → take k (drop at x) ≡ take k (drop at y)
same_part at k n x y same inside =
    sym (drop-take at k x) ∙ ap (drop at) (same_front (at + k) n x y same inside) ∙ drop-take at k y

-- a part inside the front
pub part_of_front : (at k n : ℕ) (x : List ℕ) → at + k ≤ n → take k (drop at (take n x)) ≡ take k (drop at x)
part_of_front at k n x inside = sym (drop-take at k (take n x)) ∙ ap (drop at) (take-take (at + k) n x inside) ∙ drop-take at k x

-- the greatest length is no less than that of each claim on the block
pub among_greatest : (f : Claim → ℕ) (claims : List Claim) (claim : Claim) → Contains claims claim → f claim ≤ greatest_on f claims claim.block
among_greatest f [] claim here = absurd (omega (arith, here.1))
among_greatest f (c ∷ claims) claim here =
    let b = claim.block in
    let mine : ℕ = cond (eqb c.block b) (f c) 0 in
    let rest : ℕ = greatest_on f claims b in
    elim (Contains_cases c claims claim here) [
      | inl is ↦
          let test : eqb c.block b ≡ true = eq-eqb c.block b (ap (λ (k : Claim). k.block) is) in
          let first : mine ≡ f claim = cond-true (eqb c.block b) (f c) 0 test ∙ ap f is in
          omega (arith, first, le-max_left mine rest)
      | inr behind ↦ omega (arith, among_greatest f claims claim behind, le-max_right mine rest)
    ]

-- the records of a region are read
pub records_read : (g : Geometry) (r : Reading) (b n : ℕ) → b < blocks_of g → record_length (region_of g b) ≡ n → n ≤ metadata_length g r b
unfolding metadata_length
records_read g r b n below is =
    let test = lt-ltb b (blocks_of g) below in
    let mine : length_of_records g b ≡ n = cond-true _ (record_length (region_of g b)) 0 test ∙ is in
    omega (arith, mine, le-max_left (length_of_records g b) (greatest_on (metadata_claim_length r) (claims_of r) b))

-- metadata is read
pub lengths_below : (f h : Claim → ℕ) (claims : List Claim) (b : ℕ) → ((claim : Claim) → f claim ≤ h claim) → greatest_on f claims b ≤ greatest_on h claims b
lengths_below f h [] b each = omega arith
lengths_below f h (c ∷ claims) b each =
    let rest = lengths_below f h claims b each in
    let first : cond (eqb c.block b) (f c) 0 ≤ cond (eqb c.block b) (h c) 0 =
    elim (eqb c.block b) as (λ t. cond t (f c) 0 ≤ cond t (h c) 0) [ true ↦ each c | false ↦ omega arith ] in
    omega (arith, rest, first)

metadata_of_claim : (r : Reading) (claim : Claim) → metadata_claim_length r claim ≤ claim_length r claim
metadata_of_claim r claim =
    elim (used_at r claim.inode) as (λ (o : Option UsedInode). option_map_or (λ u. cond (is_of_file u claim.part) 0 (part_length u claim.part)) o 0
    ≤ option_map_or (λ u. part_length u claim.part) o 0) [
      | None ↦ omega arith
      | Some u ↦ elim (is_of_file u claim.part) as (λ t. cond t 0 (part_length u claim.part) ≤ part_length u claim.part) [ true ↦ omega arith | false ↦ omega arith ]
    ]

pub metadata_is_read : (g : Geometry) (r : Reading) (b : ℕ) → metadata_length g r b ≤ read_length g r b
unfolding metadata_length read_length
metadata_is_read g r b =
    omega (arith, lengths_below (metadata_claim_length r) (claim_length r) (claims_of r) b (metadata_of_claim r))

-- the part of an inode at the block that a number of it names
pub index_read : (g : Geometry) (r : Reading) (i : ℕ) (u : UsedInode) (index : ℕ) → used_at r i ≡ Some u → eqb (slice_index u.numbers index) 0 ≡ false
    → index_length u index ≤ read_length g r (slice_index u.numbers index)
unfolding read_length
index_read g r i u index used some =
    let claim = index_claim i u index in
    let length_is : claim_length r claim ≡ index_length u index = ap (λ (o : Option UsedInode). option_map_or (λ u. part_length u claim.part) o 0) used in
    omega (
      arith,
      length_is,
      among_greatest (claim_length r) (claims_of r) claim (index_claimed r i u index used some),
      le-max_right (length_of_records g claim.block) (greatest_on (claim_length r) (claims_of r) claim.block),
    )

pub metadata_index_read : (g : Geometry) (r : Reading) (i : ℕ) (u : UsedInode) (index : ℕ) → used_at r i ≡ Some u → eqb (slice_index u.numbers index) 0 ≡ false
    → is_file u.inode.mode ≡ false → index_length u index ≤ metadata_length g r (slice_index u.numbers index)
unfolding metadata_length
metadata_index_read g r i u index used some other =
    let claim = index_claim i u index in
    let length_is : metadata_claim_length r claim ≡ index_length u index =
    ap (λ (o : Option UsedInode). option_map_or (λ u. cond (is_of_file u claim.part) 0 (part_length u claim.part)) o 0) used
    ∙ cond-false (is_file u.inode.mode) 0 (index_length u index) other in
    omega (
      arith,
      length_is,
      among_greatest (metadata_claim_length r) (claims_of r) claim (index_claimed r i u index used some),
      le-max_right (length_of_records g claim.block) (greatest_on (metadata_claim_length r) (claims_of r) claim.block),
    )

pub pointer_read : (g : Geometry) (r : Reading) (i : ℕ) (u : UsedInode) (p : NamedPointer) → used_at r i ≡ Some u → Contains u.pointers p → eqb p.block 0 ≡ false
    → 4096 ≤ metadata_length g r p.block
unfolding metadata_length
pointer_read g r i u p used among some =
    let claim = pointer_claim i p in
    let length_is : metadata_claim_length r claim ≡ 4096 =
    ap (λ (o : Option UsedInode). option_map_or (λ u. cond (is_of_file u claim.part) 0 (part_length u claim.part)) o 0) used in
    omega (
      arith,
      length_is,
      among_greatest (metadata_claim_length r) (claims_of r) claim (pointer_claimed r i u p used among some),
      le-max_right (length_of_records g claim.block) (greatest_on (metadata_claim_length r) (claims_of r) claim.block),
    )
