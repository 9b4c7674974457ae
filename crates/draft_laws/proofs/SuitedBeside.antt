-- Deltas that suit one reading are of one kind in each block, but for zero blocks.
use Rattle.std.proofs.Common.{◌≡◌, ◌⊎◌, inl, inr, ℕ, ◌/◌, eqb, leb, Bool, true, false, not, ◌&&◌, ◌||◌, cond, Option, refl, sym, ap, ◌∙◌, arith, ◌+◌}
use Rattle.std.specs.Prelude.{nat_lt}
use Rattle.std.specs.List.{Contains}
use Rattle.std.specs.Option.{option_map_or}
use Rattle.std.proofs.lemmas.Bool.{cases_Bool, false≢true, and_parts, and_left, and_right, eq-eqb, eqb-true, leb-true, both_ways}
use Rattle.lufs_base.specs.Layout.{blocks_of, region_of}
use Rattle.lufs_base.specs.declared.geometry.Geometry.{Geometry}
use Rattle.lufs_base.specs.declared.geometry.Region.{Region}
use Rattle.lufs_base.specs.declared.geometry.Region.TheVariants.{Boot, Super, Log, GroupBlock, Inodes, Body}
use Rattle.lufs_base.specs.declared.delta.Delta.{Delta}
use Rattle.lufs_base.specs.declared.delta.DeltaKind.{DeltaKind}
use Rattle.lufs_base.specs.declared.delta.DeltaKind.TheVariants.{Group, Inode, Chunk, Pointers, Zero, LinkText, Cancel}
use Rattle.volume_model.specs.Format.{is_body, is_body_region, is_directory, is_link}
use Rattle.volume_model.specs.Log.{is_cancel, is_zero_block, is_home_of, type_of}
use Rattle.volume_model.specs.Sound.{UsedInode, Reading, Part, AtIndex, AtPointer, Claim, claims_of, is_claimed, IsLaid}
use Rattle.volume_laws.proofs.ClaimFacts.{claims_its_block}
use Rattle.volume_laws.proofs.LaidClaims.{one_claim, body_of_claim}
use Rattle.meta_store.specs.Merged.{is_whole_block, is_same_kind, share_block, stands_beside}
use Rattle.meta_store.specs.Suited.{suits_part, suits_claim, suits_claims, suits_block}
use Rattle.draft_laws.proofs.Cancels.{beside_apart}
use Rattle.draft_laws.proofs.ClaimUses.{some_passes, own_claim}

-- the kind of the deltas that lie on what an inode has as this part, besides zero blocks
abbrev kind_of_part : UsedInode → Part → DeltaKind
kind_of_part u (AtIndex index) = cond (is_directory u.inode.mode) Chunk LinkText
kind_of_part u (AtPointer name) = Pointers

no_directory : (mode : ℕ) → is_link mode ≡ true → is_directory mode ≡ false
no_directory mode link = elim (cases_Bool (is_directory mode)) [
  | inl is ↦
      let low = leb-true 0xa000 mode (and_parts (leb 0xa000 mode) (leb mode (0xa000 + 0x1ff)) link).0 in
      let high = leb-true mode (0x4000 + 0x1ff) (and_parts (leb 0x4000 mode) (leb mode (0x4000 + 0x1ff)) is).1 in
      absurd (omega (arith, low, high))
  | inr not_so ↦ not_so
]

by_part : (kind : DeltaKind) (u : UsedInode) (part : Part) → suits_part kind u part ≡ true → (is_zero_block kind ≡ true) ⊎ (kind ≡ kind_of_part u part)
by_part Group u part suits = absurd (false≢true suits)
by_part Inode u part suits = absurd (false≢true suits)
by_part Chunk u (AtIndex index) suits = inr (ap (λ (t : Bool). cond t Chunk LinkText) (sym suits))
by_part Chunk u (AtPointer name) suits = absurd (false≢true suits)
by_part Pointers u (AtIndex index) suits = absurd (false≢true suits)
by_part Pointers u (AtPointer name) suits = inr refl
by_part Zero u part suits = inl refl
by_part LinkText u (AtIndex index) suits = inr (ap (λ (t : Bool). cond t Chunk LinkText) (sym (no_directory u.inode.mode suits)))
by_part LinkText u (AtPointer name) suits = absurd (false≢true suits)
by_part Cancel u part suits = absurd (false≢true suits)

-- what suits a block of records suits its region, and what suits another block suits a claim of it
pub record SuitsClaim (r : Reading) (kind : DeltaKind) (b : ℕ) : Type 0 where
  pub claim : Claim
  pub among : Contains (claims_of r) claim
  pub block : claim.block ≡ b
  pub suits : suits_claim r kind claim ≡ true

pub by_claims : (r : Reading) (kind : DeltaKind) (b : ℕ) → suits_claims r kind b ≡ true → SuitsClaim r kind b
by_claims r kind b suits =
    let found = some_passes (λ (c : Claim). eqb c.block b && suits_claim r kind c) (claims_of r) suits in
    let both = and_parts (eqb found.0.block b) (suits_claim r kind found.0) found.2 in
    record { claim = found.0; among = found.1; block = eqb-true found.0.block b both.0; suits = both.1 }

abbrev pub SuitsRecords : Geometry → DeltaKind → ℕ → Type 0
SuitsRecords g kind b = ((kind ≡ Group) ⊎ (kind ≡ Inode)) × (is_home_of kind (region_of g b) ≡ true)

of_records : (g : Geometry) (kind : DeltaKind) (b : ℕ) → (nat_lt b (blocks_of g) && is_home_of kind (region_of g b)) ≡ true → is_home_of kind (region_of g b) ≡ true
of_records g kind b both = (and_parts (nat_lt b (blocks_of g)) (is_home_of kind (region_of g b)) both).1

pub where_suited : (g : Geometry) (r : Reading) (kind : DeltaKind) (b : ℕ) → suits_block g r kind b ≡ true → SuitsRecords g kind b ⊎ SuitsClaim r kind b
where_suited g r Group b suits = inl (inl refl, of_records g Group b suits)
where_suited g r Inode b suits = inl (inr refl, of_records g Inode b suits)
where_suited g r Chunk b suits = inr (by_claims r Chunk b suits)
where_suited g r Pointers b suits = inr (by_claims r Pointers b suits)
where_suited g r Zero b suits = inr (by_claims r Zero b suits)
where_suited g r LinkText b suits = inr (by_claims r LinkText b suits)
where_suited g r Cancel b suits = absurd (false≢true suits)

no_body_region : (kind : DeltaKind) (region : Region) → (kind ≡ Group) ⊎ (kind ≡ Inode) → is_home_of kind region ≡ true → is_body_region region ≡ false
no_body_region kind Boot which home = refl
no_body_region kind Super which home = refl
no_body_region kind Log which home = refl
no_body_region kind (GroupBlock n) which home = refl
no_body_region kind (Inodes n) which home = refl
no_body_region kind (Body n) which home = elim which [
  | inl is ↦ absurd (false≢true (sym (ap (λ (k : DeltaKind). is_home_of k (Body n)) is) ∙ home))
  | inr is ↦ absurd (false≢true (sym (ap (λ (k : DeltaKind). is_home_of k (Body n)) is) ∙ home))
]

pub no_body : (g : Geometry) (kind : DeltaKind) (b : ℕ) → SuitsRecords g kind b → is_body g b ≡ false
no_body g kind b suits = and_right (nat_lt b (blocks_of g)) (is_body_region (region_of g b)) (no_body_region kind (region_of g b) suits.0 suits.1)

not_both : (region : Region) → is_home_of Group region ≡ true → is_home_of Inode region ≡ true → ⊥
not_both Boot home there = false≢true home
not_both Super home there = false≢true home
not_both Log home there = false≢true home
not_both (GroupBlock n) home there = false≢true there
not_both (Inodes n) home there = false≢true home
not_both (Body n) home there = false≢true home

one_record_kind : (kind other : DeltaKind) (region : Region) → (kind ≡ Group) ⊎ (kind ≡ Inode) → (other ≡ Group) ⊎ (other ≡ Inode) → is_home_of kind region ≡ true → is_home_of other region ≡ true → kind ≡ other
one_record_kind kind other region (inl k) (inl o) home there = k ∙ sym o
one_record_kind kind other region (inr k) (inr o) home there = k ∙ sym o
one_record_kind kind other region (inl k) (inr o) home there =
    absurd (not_both region (sym (ap (λ (x : DeltaKind). is_home_of x region) k) ∙ home) (sym (ap (λ (x : DeltaKind). is_home_of x region) o) ∙ there))
one_record_kind kind other region (inr k) (inl o) home there =
    absurd (not_both region (sym (ap (λ (x : DeltaKind). is_home_of x region) o) ∙ there) (sym (ap (λ (x : DeltaKind). is_home_of x region) k) ∙ home))

module _ (g : Geometry) (r : Reading) (laid : IsLaid g r) where
  body_suited : (kind : DeltaKind) (b : ℕ) → SuitsClaim r kind b → is_body g b ≡ true
  body_suited kind b suits = sym (ap (is_body g) suits.block) ∙ body_of_claim g r laid suits.claim suits.among

  kind_suited : (kind : DeltaKind) (b : ℕ) (suits : SuitsClaim r kind b) → (is_zero_block kind ≡ true) ⊎ (kind ≡ kind_of_part (own_claim r suits.claim suits.among).owner suits.claim.part)
  kind_suited kind b suits =
      let own = own_claim r suits.claim suits.among in
      by_part kind own.owner suits.claim.part (ap (λ (o : Option UsedInode). option_map_or (λ u. suits_part kind u suits.claim.part) o false) (sym own.used) ∙ suits.suits)

  -- of two kinds that suit a block, one is of zero blocks, or both are one
  pub one_kind : (kind other : DeltaKind) (b : ℕ) → suits_block g r kind b ≡ true → suits_block g r other b ≡ true → (is_zero_block kind ≡ true) ⊎ ((is_zero_block other ≡ true) ⊎ (kind ≡ other))
  one_kind kind other b suits too = elim (where_suited g r kind b suits) [
    | inl records ↦ elim (where_suited g r other b too) [
      | inl records_too ↦ inr (inr (one_record_kind kind other (region_of g b) records.0 records_too.0 records.1 records_too.1))
      | inr claim ↦ absurd (both_ways (is_body g b) (no_body g kind b records) (body_suited other b claim))
    ]
    | inr claim ↦ elim (where_suited g r other b too) [
      | inl records ↦ absurd (both_ways (is_body g b) (no_body g other b records) (body_suited kind b claim))
      | inr claim_too ↦
          let one : claim_too.claim ≡ claim.claim = one_claim g r laid claim.claim claim_too.claim claim.among claim_too.among (claim_too.block ∙ sym claim.block) in
          let again : SuitsClaim r other b = record { claim = claim.claim; among = claim.among; block = claim.block; suits = sym (ap (suits_claim r other) one) ∙ claim_too.suits } in
          elim (kind_suited kind b claim) [
            | inl zero_is ↦ inl zero_is
            | inr is ↦ elim (kind_suited other b again) [
              | inl zero_is ↦ inr (inl zero_is)
              | inr is_too ↦ inr (inr (is ∙ sym is_too))
            ]
          ]
    ]
  ]

  -- on a block that no inode claims nothing is suited, if it is a body block
  pub unsuited : (kind : DeltaKind) (b : ℕ) → is_body g b ≡ true → is_claimed r b ≡ false → suits_block g r kind b ≡ true → ⊥
  unsuited kind b body free suits = elim (where_suited g r kind b suits) [
    | inl records ↦ both_ways (is_body g b) (no_body g kind b records) body
    | inr claim ↦ both_ways (is_claimed r b) free (sym (ap (is_claimed r) claim.block) ∙ claims_its_block r claim.claim claim.among)
  ]

-- the delta suits its block; or that is a body block which no inode claims
abbrev pub Suitable : Geometry → Reading → Delta → Type 0
Suitable g r d = (suits_block g r d.kind (d.home / 4096) ≡ true) ⊎ ((is_body g (d.home / 4096) ≡ true) × (is_claimed r (d.home / 4096) ≡ false))

zero_is_whole : (kind : DeltaKind) → is_zero_block kind ≡ true → is_whole_block kind ≡ true
zero_is_whole kind is = ap (λ (t : Bool). t || is_cancel kind) is

not_suited : (g : Geometry) (r : Reading) (kind : DeltaKind) (b : ℕ) → is_cancel kind ≡ true → suits_block g r kind b ≡ true → ⊥
not_suited g r Group b cancel suits = false≢true cancel
not_suited g r Inode b cancel suits = false≢true cancel
not_suited g r Chunk b cancel suits = false≢true cancel
not_suited g r Pointers b cancel suits = false≢true cancel
not_suited g r Zero b cancel suits = false≢true cancel
not_suited g r LinkText b cancel suits = false≢true cancel
not_suited g r Cancel b cancel suits = false≢true suits

pub not_excluded : (d older : Delta) → (is_whole_block d.kind ≡ true) ⊎ ((is_zero_block older.kind ≡ true) ⊎ (d.kind ≡ older.kind)) → stands_beside d older ≡ true
not_excluded d older why =
    let w = not (is_whole_block d.kind) in
    let s = share_block d older in
    let k = not (is_same_kind d.kind older.kind) in
    let z = not (is_zero_block older.kind) in
    let out : (w && s && k && z) ≡ false = elim why [
      | inl whole ↦ and_left (w && s && k) z (and_left (w && s) k (and_left w s (ap not whole)))
      | inr rest ↦ elim rest [
        | inl zero_is ↦ and_right (w && s && k) z (ap not zero_is)
        | inr same ↦
            let types : is_same_kind d.kind older.kind ≡ true = eq-eqb (type_of d.kind) (type_of older.kind) (ap type_of same) in
            and_left (w && s && k) z (and_right (w && s) k (ap not types))
      ]
    ] in
    ap not out

pub suited_beside : (g : Geometry) (r : Reading) (d older : Delta) → IsLaid g r → suits_block g r d.kind (d.home / 4096) ≡ true → Suitable g r older → stands_beside d older ≡ true
suited_beside g r d older laid suits fits = elim (cases_Bool (eqb (d.home / 4096) (older.home / 4096))) [
  | inr apart ↦ beside_apart d older apart
  | inl shared ↦
      let same : d.home / 4096 ≡ older.home / 4096 = eqb-true (d.home / 4096) (older.home / 4096) shared in
      let there : suits_block g r d.kind (older.home / 4096) ≡ true = sym (ap (suits_block g r d.kind) same) ∙ suits in
      elim fits [
        | inr free ↦ absurd (unsuited g r laid d.kind (older.home / 4096) free.0 free.1 there)
        | inl its ↦ elim (one_kind g r laid d.kind older.kind (older.home / 4096) there its) [
          | inl zero_is ↦ not_excluded d older (inl (zero_is_whole d.kind zero_is))
          | inr more ↦ not_excluded d older (inr more)
        ]
      ]
]

-- no cancel lies on the block
pub no_cancel_there : (g : Geometry) (r : Reading) (d older : Delta) → IsLaid g r → suits_block g r d.kind (d.home / 4096) ≡ true → Suitable g r older
    → is_cancel older.kind ≡ true → older.home / 4096 ≡ d.home / 4096 → ⊥
no_cancel_there g r d older laid suits fits cancel same = elim fits [
  | inl its ↦ not_suited g r older.kind (older.home / 4096) cancel its
  | inr free ↦ unsuited g r laid d.kind (older.home / 4096) free.0 free.1 (ap (suits_block g r d.kind) same ∙ suits)
]
