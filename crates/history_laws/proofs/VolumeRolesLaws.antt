-- The blocks of a sound volume have roles, and with them a mount may begin.
use Rattle.std.proofs.Common.{◌≡◌, ◌≢◌, ◌<◌, ◌≤◌, ◌⊎◌, inl, inr, ℕ, ◌+◌, ◌-◌, ◌*◌, ◌/◌, ◌%◌, min, ltb, cond, Bool, true, false, not, ◌&&◌, List, [], ◌∷◌, length, slice_index, Option, Some, None, refl, sym, ap, ◌∙◌, arith}
use Rattle.std.specs.Prelude.{◌==◌, nat_lt, nat_le, ◌||◌, if◌then◌else◌, Contains}
use Rattle.std.specs.Option.{option_map_or, option_and_then}
use Rattle.std.proofs.lemmas.Bool.{cases_Bool, cases_eq, cases_lt, false≢true, both_ways, eqb-true, eq-eqb, ne_eqb, and_parts, leb-true, ltb-true, lt-ltb, le-ltb, cond-true, cond-false}
use Rattle.lufs_base.specs.Layout.{IsGeometry, group_start, blocks_of, region_in, region_of}
use Rattle.lufs_base.specs.declared.geometry.Geometry.{Geometry}
use Rattle.lufs_base.specs.declared.geometry.Region.{Region}
use Rattle.lufs_base.specs.declared.geometry.Region.TheVariants.{Boot, Super, Log, GroupBlock, Inodes, Body}
use Rattle.volume_model.specs.declared.hand.Hand.{Hand}
use Rattle.volume_model.specs.Format.{Blocks, is_body, is_file, is_directory, is_link}
use Rattle.volume_model.specs.Sound.{UsedInode, Reading, reading_of, used_at, size_in_blocks, Part, AtIndex, AtPointer, Claim, claims_of, IsLaid, is_of_file, part_length, metadata_claim_length, greatest_on, record_length, length_of_records, metadata_length, Sound}
use Rattle.volume_laws.proofs.BodyBlocks.{none_before}
use Rattle.volume_laws.proofs.ClaimFacts.{right_fields}
use Rattle.volume_laws.proofs.FieldFacts.{fields_of_test}
use Rattle.volume_laws.proofs.LaidClaims.{greatest_below, no_records_of_body, body_of_claim, one_claim, metadata_of_claim, sound_is_laid}
use Rattle.volume_laws.proofs.Members.{Contains_cases, Contains_head, Contains_behind}
use Rattle.journal_model.specs.Journals.{Owner, Live}
use Rattle.journal_model.specs.BlockRoles.{Role, Metadata, FileBytes, Unclaimed, is_claimed}
use Rattle.journal_model.specs.Batches.{is_freed_owner}
use Rattle.journal_model.specs.Safety.{MayBegin}
use Rattle.history_laws.specs.Named.{block_at_index, named_block}
use Rattle.history_laws.specs.Published.{AreRolesOf}
use Rattle.history_laws.specs.VolumeRoles.{part_role, claim_role, role_by, role_of}
use Rattle.history_laws.proofs.NamedBlocks.{named_in_record}
use Rattle.history_laws.proofs.NamedOnce.{claims_named}

-- the claim that gives a block its role
record ByClaim (r : Reading) (claims : List Claim) (b : ℕ) : Type 0 where
  pub claim : Claim
  pub among : Contains claims claim
  pub on : claim.block ≡ b
  pub role : role_by r claims b ≡ claim_role r claim

record ByNone (r : Reading) (claims : List Claim) (b : ℕ) : Type 0 where
  pub none : (c : Claim) → Contains claims c → c.block ≢ b
  pub role : role_by r claims b ≡ Unclaimed

role_found : (r : Reading) (claims : List Claim) (b : ℕ) → ByClaim r claims b ⊎ ByNone r claims b
role_found r [] b = inr (record { none = λ c here same. absurd (omega (arith, here.1)); role = refl })
role_found r (claim ∷ claims) b = elim (cases_Bool (claim.block == b)) [
  | inl is ↦ inl (record {
    claim = claim;
    among = Contains_head claim claims;
    on = eqb-true claim.block b is;
    role = cond-true (claim.block == b) (claim_role r claim) (role_by r claims b) is;
  })
  | inr other ↦ elim (role_found r claims b) [
    | inl by ↦ inl (record {
      claim = by.claim;
      among = Contains_behind claim claims by.claim by.among;
      on = by.on;
      role = cond-false (claim.block == b) (claim_role r claim) (role_by r claims b) other ∙ by.role;
    })
    | inr by ↦ inr (record {
      none = λ c here same. elim (Contains_cases claim claims c here) [
        | inl first ↦ both_ways (claim.block == b) other (eq-eqb claim.block b (ap (λ (d : Claim). d.block) first ∙ same))
        | inr rest ↦ by.none c rest same
      ];
      role = cond-false (claim.block == b) (claim_role r claim) (role_by r claims b) other ∙ by.role;
    })
  ]
]

-- what a claim makes of its block's bytes
record IsMetadataFor (role : Role) (length : ℕ) : Type 0 where
  pub bytes : ℕ
  pub is : role ≡ Metadata bytes
  pub covers : length ≤ bytes

part_metadata : (u : UsedInode) (part : Part) → 1 ≤ (if is_of_file u part then 0 else part_length u part) → IsMetadataFor (part_role u part) (if is_of_file u part then 0 else part_length u part)
part_metadata u (AtPointer name) some = record { bytes = 4096; is = refl; covers = omega arith }
part_metadata u (AtIndex index) some = by_type (is_file u.inode.mode) (is_directory u.inode.mode) some
  where
    by_type : (f d : Bool) → 1 ≤ (if f then 0 else (if f then 4096 else (if d then 512 * min 8 (length u.chunks - 8 * index) else u.inode.size - 4096 * index)))
        → IsMetadataFor (if f then FileBytes else (if d then Metadata 4096 else Metadata (u.inode.size - 4096 * index)))
        (if f then 0 else (if f then 4096 else (if d then 512 * min 8 (length u.chunks - 8 * index) else u.inode.size - 4096 * index)))
    by_type true d some = absurd (omega (arith, some))
    by_type false true some = record { bytes = 4096; is = refl; covers = omega arith }
    by_type false false some = record { bytes = u.inode.size - 4096 * index; is = refl; covers = omega arith }

claim_metadata : (r : Reading) (claim : Claim) → 1 ≤ metadata_claim_length r claim → IsMetadataFor (claim_role r claim) (metadata_claim_length r claim)
claim_metadata r claim = by_used (used_at r claim.inode)
  where
    by_used : (o : Option UsedInode) → 1 ≤ option_map_or (λ u. if is_of_file u claim.part then 0 else part_length u claim.part) o 0
        → IsMetadataFor (option_map_or (λ u. part_role u claim.part) o Unclaimed) (option_map_or (λ u. if is_of_file u claim.part then 0 else part_length u claim.part) o 0)
    by_used None some = absurd (omega (arith, some))
    by_used (Some u) some = part_metadata u claim.part some

-- the records of groups and of inodes
few_records : (region : Region) → record_length region ≤ 4096
few_records Boot = omega arith
few_records Super = omega arith
few_records Log = omega arith
few_records (GroupBlock n) = omega arith
few_records (Inodes n) = omega arith
few_records (Body n) = omega arith

records_low : (g : Geometry) (b : ℕ) → length_of_records g b ≤ 4096
records_low g b = elim (nat_lt b (blocks_of g)) as (λ t. (if t then record_length (region_of g b) else 0) ≤ 4096) [ true ↦ few_records (region_of g b) | false ↦ omega arith ]

records_inside : (g : Geometry) (b : ℕ) → 1 ≤ length_of_records g b → b < blocks_of g
records_inside g b some = elim (cases_lt b (blocks_of g)) [
  | inl inside ↦ inside
  | inr past ↦ let none : length_of_records g b ≡ 0 = cond-false (nat_lt b (blocks_of g)) (record_length (region_of g b)) 0 (le-ltb b (blocks_of g) past) in absurd (omega (arith, some, none))
]

no_records_before : (g : Geometry) (b : ℕ) → b < group_start g 0 → record_length (region_of g b) ≡ 0
no_records_before g b before =
    let after = region_in g ((b - (3 + g.log / 8)) / g.bpg) ((b - (3 + g.log / 8)) % g.bpg) in
    elim (ltb b 2) as (λ t. record_length (cond t Boot (cond (ltb b 3) Super (cond (ltb b (3 + g.log / 8)) Log after))) ≡ 0) [
      | true ↦ refl
      | false ↦ elim (ltb b 3) as (λ t. record_length (cond t Super (cond (ltb b (3 + g.log / 8)) Log after)) ≡ 0) [
        | true ↦ refl
        | false ↦ ap (λ (t : Bool). record_length (cond t Log after)) (let inside : b < 3 + g.log / 8 = omega (arith, before) in lt-ltb b (3 + g.log / 8) inside)
      ]
    ]

records_in_groups : (g : Geometry) (b : ℕ) → 1 ≤ length_of_records g b → group_start g 0 ≤ b
records_in_groups g b some = elim (cases_lt b (group_start g 0)) [
  | inl before ↦
      let none : length_of_records g b ≡ 0 = cond-true (nat_lt b (blocks_of g)) (record_length (region_of g b)) 0 (lt-ltb b (blocks_of g) (records_inside g b some)) ∙ no_records_before g b before in
      absurd (omega (arith, some, none))
  | inr from ↦ from
]

link_low : (f a d x y z l s t : Bool) → (f && a || (d && x && y && z) || (l && s && t)) ≡ true → f ≡ false → d ≡ false → t ≡ true
link_low true a d x y z l s t is file directory = absurd (false≢true (sym file))
link_low false a true x y z l s t is file directory = absurd (false≢true (sym directory))
link_low false a false x y z l s t is file directory = (and_parts (l && s) t is).1

module _ (g : Geometry) (blocks : Blocks) (hands : List Hand) (ok : IsGeometry g) (sound : Sound g blocks hands) where
  laid : IsLaid g (reading_of g blocks)
  laid = sound_is_laid g blocks hands sound

  -- a block with records has no claim
  no_claim : (b : ℕ) → 1 ≤ length_of_records g b → (c : Claim) → Contains (claims_of (reading_of g blocks)) c → c.block ≡ b → ⊥
  no_claim b some c here on =
      let body : is_body g b ≡ true = ap (is_body g) (sym on) ∙ body_of_claim g (reading_of g blocks) laid c here in
      let none : length_of_records g b ≡ 0 = cond-true (nat_lt b (blocks_of g)) (record_length (region_of g b)) 0 (lt-ltb b (blocks_of g) (records_inside g b some)) ∙ no_records_of_body g b body in
      omega (arith, some, none)

  nothing_on : (b : ℕ) → ((c : Claim) → Contains (claims_of (reading_of g blocks)) c → c.block ≡ b → ⊥) → metadata_length g (reading_of g blocks) b ≡ length_of_records g b
  unfolding metadata_length
  nothing_on b none =
      let low : greatest_on (metadata_claim_length (reading_of g blocks)) (claims_of (reading_of g blocks)) b ≤ 0 =
      greatest_below (metadata_claim_length (reading_of g blocks)) (claims_of (reading_of g blocks)) b 0 (λ c here on. absurd (none c here on)) in
      omega (arith, low)

  role_of_records : (b : ℕ) → 1 ≤ length_of_records g b → role_of g (reading_of g blocks) b ≡ Metadata 4096
  unfolding role_of
  role_of_records b some =
      cond-false (length_of_records g b == 0) (role_by (reading_of g blocks) (claims_of (reading_of g blocks)) b) (Metadata 4096)
      (ne_eqb (length_of_records g b) 0 (λ same. omega (arith, some, same)))

  role_of_claims : (b : ℕ) → length_of_records g b ≡ 0 → role_of g (reading_of g blocks) b ≡ role_by (reading_of g blocks) (claims_of (reading_of g blocks)) b
  unfolding role_of
  role_of_claims b none = cond-true (length_of_records g b == 0) (role_by (reading_of g blocks) (claims_of (reading_of g blocks)) b) (Metadata 4096) (eq-eqb (length_of_records g b) 0 none)

  records_or_none : (b : ℕ) → (1 ≤ length_of_records g b) ⊎ (length_of_records g b ≡ 0)
  records_or_none b = elim (cases_eq (length_of_records g b) 0) [
    | inl none ↦ inr none
    | inr some ↦ inl (omega (arith, some))
  ]

  metadata_role : (b : ℕ) → 1 ≤ metadata_length g (reading_of g blocks) b → IsMetadataFor (role_of g (reading_of g blocks) b) (metadata_length g (reading_of g blocks) b)
  metadata_role b some = elim (records_or_none b) [
    | inl records ↦ record {
      bytes = 4096;
      is = role_of_records b records;
      covers = omega (arith, nothing_on b (no_claim b records), records_low g b);
    }
    | inr none ↦ elim (role_found (reading_of g blocks) (claims_of (reading_of g blocks)) b) [
      | inl by ↦
          let long : metadata_length g (reading_of g blocks) b ≡ metadata_claim_length (reading_of g blocks) by.claim =
          ap (metadata_length g (reading_of g blocks)) (sym by.on) ∙ metadata_of_claim g (reading_of g blocks) laid by.claim by.among in
          let is = claim_metadata (reading_of g blocks) by.claim (omega (arith, some, long)) in
          record { bytes = is.bytes; is = role_of_claims b none ∙ by.role ∙ is.is; covers = let low : metadata_claim_length (reading_of g blocks) by.claim ≤ is.bytes = is.covers in omega (arith, low, long) }
      | inr by ↦ absurd (omega (arith, some, nothing_on b by.none, none))
    ]
  ]

  file_part : (u : UsedInode) (index b : ℕ) → block_at_index u index ≡ Some b → part_role u (AtIndex index) ≡ FileBytes
  file_part u index b is = from (is_file u.inode.mode) (nat_lt index (size_in_blocks u.inode.size) && not (slice_index u.numbers index == 0)) is
    where
      from : (c d : Bool) → (if c && d then Some (slice_index u.numbers index) else None) ≡ Some b
          → (if c then FileBytes else (if is_directory u.inode.mode then Metadata 4096 else Metadata (u.inode.size - 4096 * index))) ≡ FileBytes
      from true d is = refl
      from false d is = absurd cc

  file_role : (ino index b : ℕ) → named_block (reading_of g blocks) ino index ≡ Some b → role_of g (reading_of g blocks) b ≡ FileBytes
  file_role ino index b names =
      let at = named_in_record (reading_of g blocks) ino index b names in
      let named = claims_named (reading_of g blocks) ino index b names in
      let body : is_body g b ≡ true = ap (is_body g) (sym named.block) ∙ body_of_claim g (reading_of g blocks) laid named.claim named.among in
      let none : length_of_records g b ≡ 0 = elim (records_or_none b) [
        | inl records ↦ absurd (no_claim b records named.claim named.among named.block)
        | inr none ↦ none
      ] in
      let u_names : block_at_index at.0 index ≡ Some b = sym (ap (λ (o : Option UsedInode). option_and_then (λ u. block_at_index u index) o) at.1) ∙ names in
      elim (role_found (reading_of g blocks) (claims_of (reading_of g blocks)) b) [
        | inl by ↦
            let same : by.claim ≡ named.claim = one_claim g (reading_of g blocks) laid named.claim by.claim named.among by.among (by.on ∙ sym named.block) in
            role_of_claims b none ∙ by.role
            ∙ ap (λ (c : Claim). claim_role (reading_of g blocks) c) same
            ∙ ap (λ (i : ℕ). option_map_or (λ (u : UsedInode). part_role u named.claim.part) (used_at (reading_of g blocks) i) Unclaimed) named.inode
            ∙ ap (λ (o : Option UsedInode). option_map_or (λ (u : UsedInode). part_role u named.claim.part) o Unclaimed) at.1
            ∙ ap (part_role at.0) named.part
            ∙ file_part at.0 index b u_names
        | inr by ↦ absurd (by.none named.claim named.among named.block)
      ]

  pub roles_of_volume : AreRolesOf g (role_of g (reading_of g blocks)) (reading_of g blocks)
  roles_of_volume = record {
    metadata = λ b some. let is = metadata_role b some in (is.bytes, is.is, is.covers);
    files = file_role;
  }

  part_small : (i : ℕ) (u : UsedInode) (part : Part) (n : ℕ) → used_at (reading_of g blocks) i ≡ Some u → part_role u part ≡ Metadata n → n ≤ 4096
  part_small i u (AtPointer name) n used is = omega (arith, bytes_of_role is)
    where
      bytes_of_role : {a b : ℕ} → Metadata a ≡ Metadata b → a ≡ b
      bytes_of_role is = cc
  part_small i u (AtIndex index) n used is = by_type (is_file u.inode.mode) refl (is_directory u.inode.mode) refl is
    where
      bytes_of_role : {a b : ℕ} → Metadata a ≡ Metadata b → a ≡ b
      bytes_of_role is = cc

      by_type : (f : Bool) → is_file u.inode.mode ≡ f → (d : Bool) → is_directory u.inode.mode ≡ d
          → (if f then FileBytes else (if d then Metadata 4096 else Metadata (u.inode.size - 4096 * index))) ≡ Metadata n → n ≤ 4096
      by_type true file d directory is = absurd cc
      by_type false file true directory is = omega (arith, bytes_of_role is)
      by_type false file false directory is =
          let right = (fields_of_test g i u (right_fields g blocks hands sound i u used)).size in
          let low : u.inode.size ≤ 1024 = leb-true u.inode.size 1024 (link_low (is_file u.inode.mode) _ (is_directory u.inode.mode) _ _ _ (is_link u.inode.mode) _ (nat_le u.inode.size 1024) right file directory) in
          omega (arith, low, bytes_of_role is)

  claim_small : (claim : Claim) (n : ℕ) → claim_role (reading_of g blocks) claim ≡ Metadata n → n ≤ 4096
  claim_small claim n = by_used (used_at (reading_of g blocks) claim.inode) refl
    where
      by_used : (o : Option UsedInode) → used_at (reading_of g blocks) claim.inode ≡ o → option_map_or (λ u. part_role u claim.part) o Unclaimed ≡ Metadata n → n ≤ 4096
      by_used None used is = absurd cc
      by_used (Some u) used is = part_small claim.inode u claim.part n used is

  sizes : (b n : ℕ) → role_of g (reading_of g blocks) b ≡ Metadata n → n ≤ 4096
  sizes b n is = elim (records_or_none b) [
    | inl records ↦ omega (arith, bytes_of_role (sym (role_of_records b records) ∙ is))
    | inr none ↦ elim (role_found (reading_of g blocks) (claims_of (reading_of g blocks)) b) [
      | inl by ↦ claim_small by.claim n (sym by.role ∙ sym (role_of_claims b none) ∙ is)
      | inr by ↦ let clash : Unclaimed ≡ Metadata n = sym by.role ∙ sym (role_of_claims b none) ∙ is in absurd cc
    ]
  ]
    where
      bytes_of_role : {a b : ℕ} → Metadata a ≡ Metadata b → a ≡ b
      bytes_of_role is = cc

  places : (b : ℕ) → is_claimed (role_of g (reading_of g blocks) b) ≡ true → (group_start g 0 ≤ b) × (b < blocks_of g)
  places b claimed = elim (records_or_none b) [
    | inl records ↦ (records_in_groups g b records, records_inside g b records)
    | inr none ↦ elim (role_found (reading_of g blocks) (claims_of (reading_of g blocks)) b) [
      | inl by ↦
          let body : is_body g b ≡ true = ap (is_body g) (sym by.on) ∙ body_of_claim g (reading_of g blocks) laid by.claim by.among in (
            elim (cases_lt b (group_start g 0)) [
              | inl before ↦ absurd (both_ways (is_body g b) (none_before g ok b before) body)
              | inr from ↦ from
            ],
            ltb-true b (blocks_of g) (and_parts (nat_lt b (blocks_of g)) _ body).0,
          )
      | inr by ↦ absurd (false≢true (sym (ap is_claimed (role_of_claims b none ∙ by.role)) ∙ claimed))
    ]
  ]

  pub volume_begins : (owners : ℕ → Owner) → ((b : ℕ) → is_claimed (role_of g (reading_of g blocks) b) ≡ true → owners b ≡ Live)
      → ((b : ℕ) → is_claimed (role_of g (reading_of g blocks) b) ≡ false → is_freed_owner (owners b) ≡ false) → MayBegin g (role_of g (reading_of g blocks)) owners
  volume_begins owners claimed unclaimed = record { places = places; sizes = sizes; claimed = claimed; unclaimed = unclaimed }
