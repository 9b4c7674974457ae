-- How many bytes of a block are metadata, in what is stored right: some, where a delta may lie on it, and a block at most.
use Rattle.std.proofs.Common.{◌≡◌, ◌<◌, ◌≤◌, ◌⊎◌, inl, inr, ℕ, ◌-◌, ◌*◌, ◌/◌, ◌%◌, min, eqb, Bool, true, false, not, ◌&&◌, ◌||◌, cond, List, [], ◌∷◌, ◌++◌, length, map, slice_index, Option, Some, refl, sym, ap, ◌∙◌, subst, arith}
use Rattle.std.specs.Prelude.{◌==◌, nat_le, nat_lt, slice_index_or}
use Rattle.std.specs.List.{All, Contains, range_with_len}
use Rattle.std.specs.Option.{option_map_or}
use Rattle.std.proofs.Math.Nat.{max-le}
use Rattle.std.proofs.lemmas.Bool.{cases_lt, true≢false, false≢true, and_parts, cond-true, cond-false, leb-true, not-true, eq-eqb, ltb-true}
use Rattle.std.proofs.lemmas.List.Elements.{All-nil, All-cons, All-append, All-filter, All-contains, All-map, filter_passes}
use Rattle.lufs_base.specs.Layout.{blocks_of, region_of}
use Rattle.lufs_base.specs.declared.geometry.Geometry.{Geometry}
use Rattle.lufs_base.specs.declared.geometry.Region.{Region}
use Rattle.lufs_base.specs.declared.geometry.Region.TheVariants.{Boot, Super, Log, GroupBlock, Inodes, Body}
use Rattle.lufs_base.specs.declared.delta.DeltaKind.{DeltaKind}
use Rattle.lufs_base.specs.declared.delta.DeltaKind.TheVariants.{Group, Inode, Chunk, Pointers, Zero, LinkText, Cancel}
use Rattle.volume_model.specs.declared.hand.Hand.{Hand}
use Rattle.volume_model.specs.Log.{is_home_of}
use Rattle.volume_model.specs.Format.{Blocks, is_file, is_directory, is_link}
use Rattle.volume_model.specs.Sound.{UsedInode, Reading, reading_of, used_at, PointerName, NamedPointer, Part, AtIndex, AtPointer, Claim, index_claim, index_claims, pointer_claim, claims_in, claims_of, IsStored, size_in_blocks, most_blocks, index_length, part_length, is_of_file, metadata_claim_length, record_length, length_of_records, metadata_length}
use Rattle.volume_laws.proofs.ClaimFacts.{by_index}
use Rattle.volume_laws.proofs.FieldFacts.{HasRightFields, fields_of_numbers}
use Rattle.volume_laws.proofs.LaidClaims.{metadata_of_claim, greatest_below}
use Rattle.volume_laws.proofs.ReadLengths.{records_read}
use Rattle.volume_laws.proofs.StoredClaims.{right_numbers, stored_is_laid}
use Rattle.volume_laws.proofs.SameReading.{not_file, chunks_counted}
use Rattle.volume_laws.proofs.NodeClaims.{directory_size}
use Rattle.volume_laws.proofs.NodeFacts.{link_is_other}
use Rattle.volume_laws.proofs.BodyChanges.{has_record}
use Rattle.change_laws.proofs.Extended.{zero_at}
use Rattle.meta_store.specs.Suited.{suits_part, suits_claim, suits_block}
use Rattle.draft_laws.proofs.ClaimUses.{own_claim}
use Rattle.draft_laws.proofs.SuitedBeside.{SuitsRecords, where_suited}

-- the part of a claim, in two cases
pub part_cases : (part : Part) → ((name : PointerName) × (part ≡ AtPointer name)) ⊎ ((index : ℕ) × (part ≡ AtIndex index))
part_cases (AtPointer name) = inl (name, refl)
part_cases (AtIndex index) = inr (index, refl)

index_is : (m n : ℕ) → AtIndex m ≡ AtIndex n → m ≡ n
index_is m n same = cc

pub no_index : (name : PointerName) (n : ℕ) → AtPointer name ≡ AtIndex n → ⊥
no_index name n same = cc

-- the block of a claim by an index is what the number there says
abbrev IsNumbered : UsedInode → Claim → Type 0
IsNumbered u claim = (index : ℕ) → claim.part ≡ AtIndex index → claim.block ≡ slice_index u.numbers index

of_pointers : (i : ℕ) (u : UsedInode) (pointers : List NamedPointer) → All (IsNumbered u) (map (pointer_claim i) pointers)
of_pointers i u [] = All-nil (IsNumbered u)
of_pointers i u (p ∷ pointers) =
    All-cons (IsNumbered u) (pointer_claim i p) (map (pointer_claim i) pointers) (λ index is. absurd (no_index p.name index is)) (of_pointers i u pointers)

of_indexes : (i : ℕ) (u : UsedInode) → All (IsNumbered u) (index_claims i 0 u.numbers)
of_indexes i u =
    subst (λ (l : List Claim). All (IsNumbered u) l) (sym (by_index i u))
    (All-map (IsNumbered u) (index_claim i u) (range_with_len 0 (length u.numbers)) (λ k d inside index is.
    ap (slice_index u.numbers) (index_is (slice_index_or (range_with_len 0 (length u.numbers)) k d) index is)))

pub record IsPlaced (u : UsedInode) (claim : Claim) : Type 0 where
  pub numbered : (index : ℕ) → claim.part ≡ AtIndex index → claim.block ≡ slice_index u.numbers index
  pub some : eqb claim.block 0 ≡ false

pub placed_claim : (i : ℕ) (u : UsedInode) (claim : Claim) → Contains (claims_in i u) claim → IsPlaced u claim
placed_claim i u claim here =
    let all : List Claim = map (pointer_claim i) u.pointers ++ index_claims i 0 u.numbers in
    let test = λ (c : Claim). not (eqb c.block 0) in
    record {
      numbered = All-contains (IsNumbered u) (claims_in i u) claim
          (All-filter test (IsNumbered u) all (All-append (IsNumbered u) (map (pointer_claim i) u.pointers) (index_claims i 0 u.numbers) (of_pointers i u u.pointers) (of_indexes i u))) here;
      some = not-true (eqb claim.block 0) (All-contains (λ (c : Claim). test c ≡ true) (claims_in i u) claim (filter_passes test all) here);
    }

-- an index with a number is below the size
pub below_size : (g : Geometry) (i : ℕ) (u : UsedInode) (claim : Claim) (index : ℕ) → HasRightFields g i u → Contains (claims_in i u) claim → claim.part ≡ AtIndex index → index < size_in_blocks u.inode.size
below_size g i u claim index right here is = elim (cases_lt index (size_in_blocks u.inode.size)) [
  | inl below ↦ below
  | inr past ↦
      let placed = placed_claim i u claim here in
      let none : claim.block ≡ 0 = placed.numbered index is ∙ zero_at u.numbers (size_in_blocks u.inode.size) index right.none_past past in
      absurd (true≢false (sym (eq-eqb claim.block 0 none) ∙ placed.some))
]

-- how many bytes of the part are metadata
abbrev pub metadata_of_part : UsedInode → Part → ℕ
metadata_of_part u part = cond (is_of_file u part) 0 (part_length u part)

pub directory_part : (u : UsedInode) (index : ℕ) → is_directory u.inode.mode ≡ true → metadata_of_part u (AtIndex index) ≡ 512 * min 8 (length u.chunks - 8 * index)
directory_part u index directory =
    let plain = not_file u.inode.mode directory in
    cond-false (is_file u.inode.mode) 0 (index_length u index) plain
    ∙ cond-false (is_file u.inode.mode) 4096 _ plain
    ∙ cond-true (is_directory u.inode.mode) (512 * min 8 (length u.chunks - 8 * index)) _ directory

pub link_part : (u : UsedInode) (index : ℕ) → is_link u.inode.mode ≡ true → metadata_of_part u (AtIndex index) ≡ u.inode.size - 4096 * index
link_part u index link =
    let others = link_is_other u.inode.mode link in
    cond-false (is_file u.inode.mode) 0 (index_length u index) others.0
    ∙ cond-false (is_file u.inode.mode) 4096 _ others.0
    ∙ cond-false (is_directory u.inode.mode) _ (u.inode.size - 4096 * index) others.1

part_some : (kind : DeltaKind) (u : UsedInode) (index : ℕ) → suits_part kind u (AtIndex index) ≡ true → (is_directory u.inode.mode ≡ true) ⊎ (is_link u.inode.mode ≡ true)
part_some Group u index suits = absurd (false≢true suits)
part_some Inode u index suits = absurd (false≢true suits)
part_some Chunk u index suits = inl suits
part_some Pointers u index suits = absurd (false≢true suits)
part_some Zero u index suits = inl suits
part_some LinkText u index suits = inr suits
part_some Cancel u index suits = absurd (false≢true suits)

-- the types of right sizes
pub type_of_size : (file directory link s t u : Bool) → ((file && s) || (directory && t) || (link && u)) ≡ true → (file ≡ true) ⊎ ((directory ≡ true) ⊎ ((link ≡ true) × (u ≡ true)))
type_of_size true directory link s t u is = inl refl
type_of_size false true link s t u is = inr (inl refl)
type_of_size false false true s t u is = inr (inr (refl, is))
type_of_size false false false s t u is = absurd (false≢true is)

few_records : (region : Region) → record_length region ≤ 4096
few_records Boot = omega arith
few_records Super = omega arith
few_records Log = omega arith
few_records (GroupBlock n) = omega arith
few_records (Inodes n) = omega arith
few_records (Body n) = omega arith

records_fit : (g : Geometry) (b : ℕ) → length_of_records g b ≤ 4096
records_fit g b = elim (nat_lt b (blocks_of g)) as (λ t. cond t (record_length (region_of g b)) 0 ≤ 4096) [ true ↦ few_records (region_of g b) | false ↦ (let none : 0 ≤ 4096 = omega arith in none) ]

has_records : Region → Bool
has_records (GroupBlock n) = true
has_records (Inodes n) = true
has_records r = false

no_home : (kind : DeltaKind) (region : Region) → (kind ≡ Group) ⊎ (kind ≡ Inode) → is_home_of kind region ≡ true → has_records region ≡ false → ⊥
unfolding has_records
no_home kind Boot (inl is) home none = false≢true (sym (ap (λ (k : DeltaKind). is_home_of k Boot) is) ∙ home)
no_home kind Boot (inr is) home none = false≢true (sym (ap (λ (k : DeltaKind). is_home_of k Boot) is) ∙ home)
no_home kind Super (inl is) home none = false≢true (sym (ap (λ (k : DeltaKind). is_home_of k Super) is) ∙ home)
no_home kind Super (inr is) home none = false≢true (sym (ap (λ (k : DeltaKind). is_home_of k Super) is) ∙ home)
no_home kind Log (inl is) home none = false≢true (sym (ap (λ (k : DeltaKind). is_home_of k Log) is) ∙ home)
no_home kind Log (inr is) home none = false≢true (sym (ap (λ (k : DeltaKind). is_home_of k Log) is) ∙ home)
no_home kind (GroupBlock n) which home none = true≢false none
no_home kind (Inodes n) which home none = true≢false none
no_home kind (Body n) (inl is) home none = false≢true (sym (ap (λ (k : DeltaKind). is_home_of k (Body n)) is) ∙ home)
no_home kind (Body n) (inr is) home none = false≢true (sym (ap (λ (k : DeltaKind). is_home_of k (Body n)) is) ∙ home)

inside_of : (g : Geometry) (r : Reading) (kind : DeltaKind) (b : ℕ) → (kind ≡ Group) ⊎ (kind ≡ Inode) → suits_block g r kind b ≡ true → nat_lt b (blocks_of g) ≡ true
inside_of g r kind b (inl is) suits = (and_parts (nat_lt b (blocks_of g)) (is_home_of Group (region_of g b)) (sym (ap (λ (k : DeltaKind). suits_block g r k b) is) ∙ suits)).0
inside_of g r kind b (inr is) suits = (and_parts (nat_lt b (blocks_of g)) (is_home_of Inode (region_of g b)) (sym (ap (λ (k : DeltaKind). suits_block g r k b) is) ∙ suits)).0

home_length : (kind : DeltaKind) (region : Region) → (kind ≡ Group) ⊎ (kind ≡ Inode) → is_home_of kind region ≡ true → 416 ≤ record_length region
unfolding has_records
home_length kind Boot which home = absurd (no_home kind Boot which home refl)
home_length kind Super which home = absurd (no_home kind Super which home refl)
home_length kind Log which home = absurd (no_home kind Log which home refl)
home_length kind (GroupBlock n) which home = omega arith
home_length kind (Inodes n) which home = omega arith
home_length kind (Body n) which home = absurd (no_home kind (Body n) which home refl)

some_records : (g : Geometry) (r : Reading) (kind : DeltaKind) (b : ℕ) → suits_block g r kind b ≡ true → SuitsRecords g kind b → 0 < metadata_length g r b
some_records g r kind b suits records =
    let many = home_length kind (region_of g b) records.0 records.1 in
    let read = records_read g r b (record_length (region_of g b)) (ltb-true b (blocks_of g) (inside_of g r kind b records.0 suits)) refl in
    omega (arith, many, read)

module _ (g : Geometry) (blocks : Blocks) (hands : List Hand) (stored : IsStored g (reading_of g blocks) hands) where
  abbrev r : Reading
  r = reading_of g blocks

  right_of : (i : ℕ) (u : UsedInode) → used_at r i ≡ Some u → HasRightFields g i u
  right_of i u used = fields_of_numbers g i u (right_numbers g r i u hands stored used)

  -- the chunks are as many as the size says
  counted : (i : ℕ) (u : UsedInode) → used_at r i ≡ Some u → is_directory u.inode.mode ≡ true → length u.chunks ≡ u.inode.size / 512
  counted i u used directory =
      let has = has_record g blocks i u used in
      subst (λ (v : UsedInode). is_directory v.inode.mode ≡ true → length v.chunks ≡ v.inode.size / 512) has.leads (chunks_counted blocks has.dinode) directory

  of_used : (claim : Claim) (u : UsedInode) → used_at r claim.inode ≡ Some u → metadata_claim_length r claim ≡ metadata_of_part u claim.part
  of_used claim u used = ap (λ (o : Option UsedInode). option_map_or (λ u. cond (is_of_file u claim.part) 0 (part_length u claim.part)) o 0) used

  pub claim_some : (claim : Claim) (kind : DeltaKind) → Contains (claims_of r) claim → suits_claim r kind claim ≡ true → 0 < metadata_claim_length r claim
  claim_some claim kind here suits =
      let own = own_claim r claim here in
      let u = own.owner in
      let is = of_used claim u own.used in
      let part : suits_part kind u claim.part ≡ true = ap (λ (o : Option UsedInode). option_map_or (λ u. suits_part kind u claim.part) o false) (sym own.used) ∙ suits in
      elim (part_cases claim.part) [
        | inl pointer ↦
            let whole : metadata_claim_length r claim ≡ 4096 = is ∙ ap (metadata_of_part u) pointer.1 in
            omega (arith, whole)
        | inr at ↦
            let index = at.0 in
            let there : suits_part kind u (AtIndex index) ≡ true = sym (ap (suits_part kind u) at.1) ∙ part in
            let below = below_size g claim.inode u claim index (right_of claim.inode u own.used) own.among at.1 in
            elim (part_some kind u index there) [
              | inl directory ↦
                  let chunks = counted claim.inode u own.used directory in
                  let whole = directory_size g u.inode (right_of claim.inode u own.used).size (not_file u.inode.mode directory) directory in
                  let size : metadata_claim_length r claim ≡ 512 * min 8 (length u.chunks - 8 * index) = is ∙ ap (metadata_of_part u) at.1 ∙ directory_part u index directory in
                  let more : 8 * index < length u.chunks = omega (arith, below, chunks, whole) in
                  omega (arith, size, more)
              | inr link ↦
                  let size : metadata_claim_length r claim ≡ u.inode.size - 4096 * index = is ∙ ap (metadata_of_part u) at.1 ∙ link_part u index link in
                  omega (arith, size, below)
            ]
      ]

  pub claim_fits : (claim : Claim) → Contains (claims_of r) claim → metadata_claim_length r claim ≤ 4096
  claim_fits claim here =
      let own = own_claim r claim here in
      let u = own.owner in
      let is = of_used claim u own.used in
      elim (part_cases claim.part) [
        | inl pointer ↦
            let whole : metadata_claim_length r claim ≡ 4096 = is ∙ ap (metadata_of_part u) pointer.1 in
            omega (arith, whole)
        | inr at ↦
            let index = at.0 in
            let size = (right_of claim.inode u own.used).size in
            let m = u.inode.mode in
            elim (type_of_size (is_file m) (is_directory m && u.inode.size % 512 == 0 && nat_le 512 u.inode.size) (is_link m && nat_le 1 u.inode.size)
            (nat_le u.inode.size (4096 * most_blocks g)) (nat_le u.inode.size (4096 * 256)) (nat_le u.inode.size 1024) size) [
              | inl file ↦
                  let none : metadata_claim_length r claim ≡ 0 = is ∙ ap (metadata_of_part u) at.1 ∙ cond-true (is_file m) 0 (index_length u index) file in
                  omega (arith, none)
              | inr rest ↦ elim rest [
                | inl some ↦
                    let directory : is_directory m ≡ true = (and_parts (is_directory m) (u.inode.size % 512 == 0) (and_parts (is_directory m && u.inode.size % 512 == 0) (nat_le 512 u.inode.size) some).0).0 in
                    let at_most : metadata_claim_length r claim ≡ 512 * min 8 (length u.chunks - 8 * index) = is ∙ ap (metadata_of_part u) at.1 ∙ directory_part u index directory in
                    omega (arith, at_most)
                | inr some ↦
                    let link : is_link m ≡ true = (and_parts (is_link m) (nat_le 1 u.inode.size) some.0).0 in
                    let few = leb-true u.inode.size 1024 some.1 in
                    let at_most : metadata_claim_length r claim ≡ u.inode.size - 4096 * index = is ∙ ap (metadata_of_part u) at.1 ∙ link_part u index link in
                    omega (arith, at_most, few)
              ]
            ]
      ]

  -- a block on which deltas of a kind may lie holds metadata
  pub suited_some : (kind : DeltaKind) (b : ℕ) → suits_block g r kind b ≡ true → 0 < metadata_length g r b
  suited_some kind b suits = elim (where_suited g r kind b suits) [
    | inl records ↦ some_records g r kind b suits records
    | inr found ↦
        let laid = stored_is_laid g r hands stored in
        let some = claim_some found.claim kind found.among found.suits in
        let is = metadata_of_claim g r laid found.claim found.among in
        subst (λ (c : ℕ). 0 < metadata_length g r c) found.block (omega (arith, some, is))
  ]

  -- no more bytes than a block has
  pub at_most_a_block : (b : ℕ) → metadata_length g r b ≤ 4096
  unfolding metadata_length
  at_most_a_block b =
      max-le (records_fit g b)
      (greatest_below (metadata_claim_length r) (claims_of r) b 4096 (λ c there same. claim_fits c there))
