-- The role of a block, by what is seen of it: whether it is claimed, whether chunks may lie on it, and how many of its bytes
-- are metadata.
use Rattle.std.proofs.Common.{◌≡◌, ◌<◌, ◌≤◌, inl, inr, ℕ, ◌-◌, ◌*◌, min, eqb, cond, Bool, true, false, ◌||◌, List, [], ◌∷◌, length, Option, refl, sym, ap, subst, ◌∙◌, arith}
use Rattle.std.specs.Prelude.{◌==◌, nat_lt, Contains}
use Rattle.std.specs.List.{list_any}
use Rattle.std.specs.Option.{option_map_or}
use Rattle.std.proofs.lemmas.Bool.{cases_Bool, both_ways, eqb-true, eq-eqb, ne_eqb, and_parts, cond-true, cond-false, or_left}
use Rattle.lufs_base.specs.Layout.{blocks_of, region_of}
use Rattle.lufs_base.specs.declared.geometry.Geometry.{Geometry}
use Rattle.lufs_base.specs.declared.delta.DeltaKind.TheVariants.{Chunk}
use Rattle.volume_model.specs.declared.hand.Hand.{Hand}
use Rattle.volume_model.specs.Format.{Blocks, is_body, is_body_region, is_file, is_directory}
use Rattle.volume_model.specs.Sound.{UsedInode, Reading, reading_of, Part, Claim, claims_of, is_claimed, IsLaid, IsStored, is_of_file, part_length, metadata_claim_length, greatest_on, record_length, length_of_records, metadata_length}
use Rattle.volume_laws.proofs.ClaimFacts.{claims_its_block}
use Rattle.volume_laws.proofs.FieldFacts.{fields_of_numbers}
use Rattle.volume_laws.proofs.LaidClaims.{greatest_below, no_records_of_body, body_of_claim, one_claim, metadata_of_claim}
use Rattle.volume_laws.proofs.Members.{Contains_cases, Contains_head, Contains_behind}
use Rattle.volume_laws.proofs.StoredClaims.{right_numbers, stored_is_laid}
use Rattle.meta_store.specs.Suited.{suits_part, suits_claim, suits_block}
use Rattle.draft_laws.proofs.ClaimUses.{claim_of, own_claim, suits_by_claim}
use Rattle.draft_laws.proofs.MetadataLengths.{part_cases, below_size, claim_some}
use Rattle.journal_model.specs.BlockRoles.{Role, Metadata, FileBytes, Unclaimed}
use Rattle.history_laws.specs.VolumeRoles.{part_role, claim_role, role_by, role_of}

-- the role of a body block
abbrev pub seen : (claimed chunk : Bool) (m : ℕ) → Role
seen claimed chunk m = cond claimed (cond (eqb m 0) FileBytes (cond chunk (Metadata 4096) (Metadata m))) Unclaimed

-- the role of another block
abbrev pub outside : (records : ℕ) → Role
outside records = cond (eqb records 0) Unclaimed (Metadata 4096)

-- the first claim on a block gives it its role
by_one : (r : Reading) (claims : List Claim) (claim : Claim) → Contains claims claim → ((c : Claim) → Contains claims c → c.block ≡ claim.block → c ≡ claim) → role_by r claims claim.block ≡ claim_role r claim
by_one r [] claim here only = absurd (omega (arith, here.1))
by_one r (c ∷ claims) claim here only = elim (cases_Bool (eqb c.block claim.block)) [
  | inl same ↦
      cond-true (eqb c.block claim.block) (claim_role r c) (role_by r claims claim.block) same
      ∙ ap (claim_role r) (only c (Contains_head c claims) (eqb-true c.block claim.block same))
  | inr other ↦ elim (Contains_cases c claims claim here) [
    | inl first ↦ absurd (both_ways (eqb c.block claim.block) other (eq-eqb c.block claim.block (ap (λ (d : Claim). d.block) first)))
    | inr rest ↦
        cond-false (eqb c.block claim.block) (claim_role r c) (role_by r claims claim.block) other
        ∙ by_one r claims claim rest (λ d there same. only d (Contains_behind c claims d there) same)
  ]
]

by_none : (r : Reading) (claims : List Claim) (b : ℕ) → list_any (λ c. eqb c.block b) claims ≡ false → role_by r claims b ≡ Unclaimed
by_none r [] b none = refl
by_none r (c ∷ claims) b none = elim (cases_Bool (eqb c.block b)) [
  | inl same ↦ absurd (both_ways _ none (or_left (eqb c.block b) (list_any (λ c. eqb c.block b) claims) same))
  | inr other ↦
      cond-false (eqb c.block b) (claim_role r c) (role_by r claims b) other
      ∙ by_none r claims b (sym (ap (λ (t : Bool). t || list_any (λ c. eqb c.block b) claims) other) ∙ none)
]

pub records_of_body : (g : Geometry) (b : ℕ) → is_body g b ≡ true → length_of_records g b ≡ 0
records_of_body g b body =
    cond-true (nat_lt b (blocks_of g)) (record_length (region_of g b)) 0 (and_parts (nat_lt b (blocks_of g)) (is_body_region (region_of g b)) body).0 ∙ no_records_of_body g b body

module _ (g : Geometry) (blocks : Blocks) (hands : List Hand) (stored : IsStored g (reading_of g blocks) hands) where
  abbrev r : Reading
  r = reading_of g blocks

  laid : IsLaid g r
  laid = stored_is_laid g r hands stored

  -- the role of a claim
  abbrev of_part : UsedInode → Part → ℕ → Type 0
  of_part u part m = part_role u part ≡ seen true (suits_part Chunk u part) m

  at_index : (u : UsedInode) (index m : ℕ) → (f d : Bool) → is_file u.inode.mode ≡ f → is_directory u.inode.mode ≡ d
      → m ≡ cond f 0 (cond d (512 * min 8 (length u.chunks - 8 * index)) (u.inode.size - 4096 * index)) → (d ≡ true → 0 < m) → (f ≡ false → d ≡ false → 0 < m)
      → cond f FileBytes (cond d (Metadata 4096) (Metadata (u.inode.size - 4096 * index))) ≡ seen true d m
  at_index u index m true d file directory is some more = ap (λ (n : ℕ). seen true d n) (sym is)
  at_index u index m false true file directory is some more = sym (cond-false (eqb m 0) FileBytes (Metadata 4096) (ne_eqb m 0 (λ none. omega (arith, none, some refl))))
  at_index u index m false false file directory is some more = ap (λ (n : ℕ). Metadata n) (sym is) ∙ sym (cond-false (eqb m 0) FileBytes (Metadata m) (ne_eqb m 0 (λ none. omega (arith, none, more refl refl))))

  claim_seen : (claim : Claim) → Contains (claims_of r) claim → claim_role r claim ≡ seen true (suits_claim r Chunk claim) (metadata_claim_length r claim)
  claim_seen claim here =
      let own = own_claim r claim here in
      let u = own.owner in
      let right = fields_of_numbers g claim.inode u (right_numbers g r claim.inode u hands stored own.used) in
      let role : claim_role r claim ≡ part_role u claim.part = ap (λ (o : Option UsedInode). option_map_or (λ u. part_role u claim.part) o Unclaimed) own.used in
      let suits : suits_claim r Chunk claim ≡ suits_part Chunk u claim.part = ap (λ (o : Option UsedInode). option_map_or (λ u. suits_part Chunk u claim.part) o false) own.used in
      let long : metadata_claim_length r claim ≡ cond (is_of_file u claim.part) 0 (part_length u claim.part) =
      ap (λ (o : Option UsedInode). option_map_or (λ u. cond (is_of_file u claim.part) 0 (part_length u claim.part)) o 0) own.used in
      let m = metadata_claim_length r claim in
      let by_part : of_part u claim.part m = elim (part_cases claim.part) [
        | inl pointer ↦
            let whole : m ≡ 4096 = long ∙ ap (λ (part : Part). cond (is_of_file u part) 0 (part_length u part)) pointer.1 in
            subst (λ (part : Part). of_part u part m) (sym pointer.1) (ap (λ (n : ℕ). seen true false n) (sym whole))
        | inr at ↦
            let index = at.0 in
            let below = below_size g claim.inode u claim index right own.among at.1 in
            let is : m ≡ cond (is_file u.inode.mode) 0 (cond (is_directory u.inode.mode) (512 * min 8 (length u.chunks - 8 * index)) (u.inode.size - 4096 * index)) =
            long ∙ ap (λ (part : Part). cond (is_of_file u part) 0 (part_length u part)) at.1 ∙ twice (is_file u.inode.mode) 0 4096 _ in
            subst (λ (part : Part). of_part u part m) (sym at.1)
            (at_index u index m (is_file u.inode.mode) (is_directory u.inode.mode) refl refl is
            (λ directory. claim_some g blocks hands stored claim Chunk here (suits ∙ ap (suits_part Chunk u) at.1 ∙ directory))
            (λ file directory.
            let size : m ≡ u.inode.size - 4096 * index =
            is ∙ ap (λ (t : Bool). cond t 0 (cond (is_directory u.inode.mode) (512 * min 8 (length u.chunks - 8 * index)) (u.inode.size - 4096 * index))) file
            ∙ ap (λ (t : Bool). cond t (512 * min 8 (length u.chunks - 8 * index)) (u.inode.size - 4096 * index)) directory in
            omega (arith, below, size)))
      ] in
      role ∙ by_part ∙ ap (λ (t : Bool). seen true t m) (sym suits)
    where
      twice : (f : Bool) (a b c : ℕ) → cond f a (cond f b c) ≡ cond f a c
      twice true a b c = refl
      twice false a b c = refl

  pub role_in_body : (b : ℕ) → is_body g b ≡ true → role_of g r b ≡ seen (is_claimed r b) (suits_block g r Chunk b) (metadata_length g r b)
  unfolding role_of
  role_in_body b body =
      let by_claims : role_of g r b ≡ role_by r (claims_of r) b = cond-true (length_of_records g b == 0) (role_by r (claims_of r) b) (Metadata 4096) (eq-eqb (length_of_records g b) 0 (records_of_body g b body)) in
      elim (cases_Bool (is_claimed r b)) [
        | inl claimed ↦
            let found = claim_of r b claimed in
            let claim = found.0 in
            let at : role_by r (claims_of r) claim.block ≡ seen true (suits_block g r Chunk claim.block) (metadata_length g r claim.block) =
            by_one r (claims_of r) claim found.1 (λ c there same. one_claim g r laid claim c found.1 there same)
            ∙ claim_seen claim found.1
            ∙ ap (λ (t : Bool). seen true t (metadata_claim_length r claim)) (sym (suits_by_claim g r laid claim found.1 Chunk))
            ∙ ap (λ (n : ℕ). seen true (suits_block g r Chunk claim.block) n) (sym (metadata_of_claim g r laid claim found.1)) in
            by_claims ∙ subst (λ (c : ℕ). role_by r (claims_of r) c ≡ seen true (suits_block g r Chunk c) (metadata_length g r c)) found.2 at
            ∙ ap (λ (t : Bool). seen t (suits_block g r Chunk b) (metadata_length g r b)) (sym claimed)
        | inr free ↦
            by_claims ∙ by_none r (claims_of r) b free
            ∙ ap (λ (t : Bool). seen t (suits_block g r Chunk b) (metadata_length g r b)) (sym free)
      ]

  -- nothing is claimed but body blocks
  pub claims_are_bodies : (b : ℕ) → is_claimed r b ≡ true → is_body g b ≡ true
  claims_are_bodies b claimed = let found = claim_of r b claimed in sym (ap (is_body g) found.2) ∙ body_of_claim g r laid found.0 found.1

  pub role_outside : (b : ℕ) → is_body g b ≡ false → role_of g r b ≡ outside (length_of_records g b)
  unfolding role_of
  role_outside b no_body =
      let free : is_claimed r b ≡ false = elim (cases_Bool (is_claimed r b)) [ inl claimed ↦ absurd (both_ways (is_body g b) no_body (claims_are_bodies b claimed)) | inr free ↦ free ] in
      ap (λ (role : Role). cond (eqb (length_of_records g b) 0) role (Metadata 4096)) (by_none r (claims_of r) b free)

  -- what isn't claimed has no metadata, unless it has records
  pub unclaimed_length : (b : ℕ) → is_claimed r b ≡ false → metadata_length g r b ≡ length_of_records g b
  unfolding metadata_length
  unclaimed_length b free =
      let low : greatest_on (metadata_claim_length r) (claims_of r) b ≤ 0 =
      greatest_below (metadata_claim_length r) (claims_of r) b 0 (λ c here on. absurd (both_ways (is_claimed r b) free (ap (is_claimed r) (sym on) ∙ claims_its_block r c here))) in
      omega (arith, low)
