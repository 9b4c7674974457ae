-- Where each body block is claimed once at most: who claims a block, and how many of its bytes are read.
use Rattle.std.proofs.Common.{◌≡◌, ◌≤◌, inl, inr, ℕ, ◌+◌, eqb, Bool, true, false, cond, List, [], ◌∷◌, refl, sym, ap, ◌∙◌, subst, arith}
use Rattle.std.specs.Prelude.{max, nat_lt, slice_index_or}
use Rattle.std.specs.List.{Contains, count_by}
use Rattle.std.proofs.Math.Nat.{max-le}
use Rattle.std.proofs.lemmas.Bool.{cases_Bool, cond-true, cond-false, and_parts, eqb-true, eq-eqb, both_ways}
use Rattle.std.proofs.lemmas.List.Elements.{All-contains}
use Rattle.std.proofs.lemmas.List.Sums.{sum_by-cons, get_or-le-sum_by}
use Rattle.lufs_base.specs.Layout.{blocks_of, region_of}
use Rattle.lufs_base.specs.declared.geometry.Geometry.{Geometry}
use Rattle.lufs_base.specs.declared.geometry.Region.{Region}
use Rattle.lufs_base.specs.declared.geometry.Region.TheVariants.{Boot, Super, Log, GroupBlock, Inodes, Body}
use Rattle.volume_model.specs.declared.hand.Hand.{Hand}
use Rattle.volume_model.specs.Format.{Blocks, is_body, is_body_region}
use Rattle.volume_model.specs.Sound.{Reading, reading_of, Claim, claims_of, IsLaid, claim_length, metadata_claim_length, greatest_on, record_length, length_of_records, read_length, metadata_length, Sound}
use Rattle.volume_laws.proofs.Members.{Contains_cases, Contains_head, Contains_behind}
use Rattle.volume_laws.proofs.ClaimFacts.{claims_are_body, claimed_once}
use Rattle.volume_laws.proofs.ReadLengths.{among_greatest}

counted : {X : Type 0} (p : X → Bool) (xs : List X) (x : X) → Contains xs x → p x ≡ true → 1 ≤ count_by p xs
counted {X} p xs x here passes =
    let count : Bool → ℕ = λ b. cond b 1 0 in
    let one : count (p (slice_index_or xs here.0 x)) ≡ 1 = ap count (ap p here.2 ∙ passes) in
    omega (arith, one, get_or-le-sum_by (λ (y : X). cond (p y) 1 0) xs here.0 x here.1)

-- two members that pass a test, where one does at most
only_one : {X : Type 0} (p : X → Bool) (xs : List X) (x y : X) → count_by p xs ≤ 1 → Contains xs x → Contains xs y → p x ≡ true → p y ≡ true → x ≡ y
only_one p [] x y few at_x at_y px py = absurd (omega (arith, at_x.1))
only_one {X} p (z ∷ xs) x y few at_x at_y px py =
    let count : Bool → ℕ = λ b. cond b 1 0 in
    let size : count_by p (z ∷ xs) ≡ count (p z) + count_by p xs = sum_by-cons (λ (w : X). count (p w)) z xs in
    elim (Contains_cases z xs x at_x) [
      | inl first ↦ elim (Contains_cases z xs y at_y) [
        | inl second ↦ sym first ∙ second
        | inr rest ↦
            let one : count (p z) ≡ 1 = ap count (ap p first ∙ px) in
            absurd (omega (arith, size, one, few, counted p xs y rest py))
      ]
      | inr behind ↦ elim (Contains_cases z xs y at_y) [
        | inl second ↦
            let one : count (p z) ≡ 1 = ap count (ap p second ∙ py) in
            absurd (omega (arith, size, one, few, counted p xs x behind px))
        | inr rest ↦ only_one p xs x y (omega (arith, size, few)) behind rest px py
      ]
    ]

-- what no claim on the block goes past
pub greatest_below : (f : Claim → ℕ) (claims : List Claim) (b m : ℕ) → ((c : Claim) → Contains claims c → c.block ≡ b → f c ≤ m) → greatest_on f claims b ≤ m
greatest_below f [] b m each = omega arith
greatest_below f (c ∷ claims) b m each =
    let rest : greatest_on f claims b ≤ m = greatest_below f claims b m (λ d here same. each d (Contains_behind c claims d here) same) in
    let first : cond (eqb c.block b) (f c) 0 ≤ m = elim (cases_Bool (eqb c.block b)) [
      | inl is ↦ subst (λ (n : ℕ). n ≤ m) (sym (cond-true (eqb c.block b) (f c) 0 is)) (each c (Contains_head c claims) (eqb-true c.block b is))
      | inr not ↦ subst (λ (n : ℕ). n ≤ m) (sym (cond-false (eqb c.block b) (f c) 0 not)) (omega arith)
    ] in
    max-le first rest

no_records : (region : Region) → is_body_region region ≡ true → record_length region ≡ 0
no_records Boot body = absurd (both_ways false refl body)
no_records Super body = absurd (both_ways false refl body)
no_records Log body = absurd (both_ways false refl body)
no_records (GroupBlock n) body = absurd (both_ways false refl body)
no_records (Inodes n) body = absurd (both_ways false refl body)
no_records (Body n) body = refl

pub no_records_of_body : (g : Geometry) (b : ℕ) → is_body g b ≡ true → record_length (region_of g b) ≡ 0
no_records_of_body g b body = no_records (region_of g b) (and_parts (nat_lt b (blocks_of g)) (is_body_region (region_of g b)) body).1

pub max-zero : (a b c : ℕ) → a ≡ 0 → b ≤ c → c ≤ b → max a b ≡ c
max-zero a b c none up down = ap (λ (n : ℕ). max n b) none ∙ (let same : max 0 b ≡ c = omega (arith, up, down) in same)

module _ (g : Geometry) (r : Reading) (laid : IsLaid g r) where
  pub body_of_claim : (claim : Claim) → Contains (claims_of r) claim → is_body g claim.block ≡ true
  body_of_claim claim here = All-contains (λ c. is_body g c.block ≡ true) (claims_of r) claim laid.bodies here

  -- a block has one claim
  pub one_claim : (claim other : Claim) → Contains (claims_of r) claim → Contains (claims_of r) other → other.block ≡ claim.block → other ≡ claim
  one_claim claim other here there same =
      let b = claim.block in
      only_one (λ c. eqb c.block b) (claims_of r) other claim (laid.once b (body_of_claim claim here)) there here (eq-eqb other.block b same) (eq-eqb b b refl)

  greatest_is : (f : Claim → ℕ) (claim : Claim) → Contains (claims_of r) claim → max (length_of_records g claim.block) (greatest_on f (claims_of r) claim.block) ≡ f claim
  greatest_is f claim here =
      let b = claim.block in
      let parts = and_parts (nat_lt b (blocks_of g)) (is_body_region (region_of g b)) (body_of_claim claim here) in
      let none : length_of_records g b ≡ 0 = cond-true (nat_lt b (blocks_of g)) (record_length (region_of g b)) 0 parts.0 ∙ no_records (region_of g b) parts.1 in
      max-zero (length_of_records g b) (greatest_on f (claims_of r) b) (f claim) none
      (greatest_below f (claims_of r) b (f claim) (λ c there same.
      let is : f c ≡ f claim = ap f (one_claim claim c here there same) in
      omega (arith, is)))
      (among_greatest f (claims_of r) claim here)

  -- and as many bytes of it are read as that asks for
  pub length_of_claim : (claim : Claim) → Contains (claims_of r) claim → read_length g r claim.block ≡ claim_length r claim
  unfolding read_length
  length_of_claim claim here = greatest_is (claim_length r) claim here

  pub metadata_of_claim : (claim : Claim) → Contains (claims_of r) claim → metadata_length g r claim.block ≡ metadata_claim_length r claim
  unfolding metadata_length
  metadata_of_claim claim here = greatest_is (metadata_claim_length r) claim here

pub sound_is_laid : (g : Geometry) (blocks : Blocks) (hands : List Hand) → Sound g blocks hands → IsLaid g (reading_of g blocks)
sound_is_laid g blocks hands sound = record { bodies = claims_are_body g blocks hands sound; once = claimed_once g blocks hands sound }
