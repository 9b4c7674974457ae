-- Which entry changes where two contents agree but in the bytes of one record.
use Rattle.std.proofs.Common.{◌≡◌, ◌≢◌, ◌<◌, ◌≤◌, inl, inr, ℕ, ◌+◌, ◌/◌, ◌%◌, true, List, take, drop, sym, ap, ◌∙◌, arith, refl}
use Rattle.std.proofs.lemmas.Bool.{cases_eq}
use Rattle.lufs_base.specs.Layout.{IsGeometry, group_start, region_of, inode_address}
use Rattle.lufs_base.specs.declared.geometry.Geometry.{Geometry}
use Rattle.lufs_base.specs.declared.geometry.Region.TheVariants.{GroupBlock}
use Rattle.lufs_base.proofs.Places.{only_region}
use Rattle.volume_model.specs.Format.{Blocks, inodes_of, is_body, dinode_of}
use Rattle.volume_model.specs.Sound.{reading_of, inode_at, IsLaid, record_length, read_length, metadata_length}
use Rattle.volume_laws.specs.Changes.{AgreeBut, AgreeWhereReadBut, AgreeInMetadataBut}
use Rattle.volume_laws.proofs.ReadLengths.{part_of_front, records_read}
use Rattle.volume_laws.proofs.LaidClaims.{body_of_claim, no_records_of_body}
use Rattle.volume_laws.proofs.SameReading.{AgreeOnClaims, group_record_block, inode_record_block, group_same, inode_same}
use Rattle.volume_laws.proofs.ListParts.{part_before, part_after}
use Rattle.volume_laws.proofs.RecordPlaces.{records_apart, aligned}
use Rattle.volume_laws.proofs.OneEntry.{OnlyInode, OnlyGroup}

-- a block with records is no body block
pub body_apart : (g : Geometry) (c b n : ℕ) → is_body g c ≡ true → record_length (region_of g b) ≡ n → 0 < n → c ≢ b
body_apart g c b n body is some = λ same.
    (let none : record_length (region_of g b) ≡ 0 = ap (λ (x : ℕ). record_length (region_of g x)) (sym same) ∙ no_records_of_body g c body in
    absurd (omega (arith, none, is, some)))

-- the blocks of two groups
groups_apart : (g : Geometry) (m n : ℕ) → IsGeometry g → m < g.groups → n < g.groups → m ≢ n → group_start g m ≢ group_start g n
groups_apart g m n ok below within other = λ same.
    (let both : GroupBlock m ≡ GroupBlock n =
    only_region g (group_start g m) (GroupBlock m) ok (below, refl) ∙ ap (region_of g) same ∙ sym (only_region g (group_start g n) (GroupBlock n) ok (within, refl)) in
    let numbers : m ≡ n = cc in
    other numbers)

-- a group block is no inode block
records_differ : (g : Geometry) (n i : ℕ) → IsGeometry g → n < g.groups → i < inodes_of g → group_start g n ≢ inode_address g i / 4096
records_differ g n i ok below within = λ same.
    (let other = ap (λ (x : ℕ). record_length (region_of g x)) same in
    absurd (omega (arith, other, (group_record_block g n ok below).1, (inode_record_block g i ok within).1)))

module _ (g : Geometry) (blocks others : Blocks) (ok : IsGeometry g) (laid : IsLaid g (reading_of g blocks)) where
  -- no claim is of a block with records
  pub claims_beside : (lengths : ℕ → ℕ) (b n at k : ℕ) → record_length (region_of g b) ≡ n → 0 < n → AgreeBut lengths blocks others b at k
      → (j : ℕ) → AgreeOnClaims lengths (reading_of g blocks) blocks others j
  claims_beside lengths b n at k is some agree j claim here its =
      agree.elsewhere claim.block (body_apart g claim.block b n (body_of_claim g (reading_of g blocks) laid claim here) is some)

  -- another record in the same block
  other_record : (i j : ℕ) → i < inodes_of g → j < inodes_of g → j ≢ i → inode_address g j / 4096 ≡ inode_address g i / 4096
      → AgreeInMetadataBut g blocks others (inode_address g i / 4096) (inode_address g i % 4096) 128 → inode_at g others j ≡ inode_at g blocks j
  other_record i j within below other same agree =
      let b = inode_address g i / 4096 in
      let p = inode_address g j % 4096 in
      let m = metadata_length g (reading_of g blocks) b in
      let mine = inode_record_block g i ok within in
      let read : 4096 ≤ m = records_read g (reading_of g blocks) b 4096 mine.0 mine.1 in
      let x : List ℕ = take m (blocks b) in
      let y : List ℕ = take m (others b) in
      let part : take 128 (drop p y) ≡ take 128 (drop p x) = elim (records_apart g i j ok other) [
        | inl after ↦ part_after x y p 128 (inode_address g i % 4096 + 128) agree.after (omega (arith, after, same))
        | inr before ↦ part_before x y p 128 (inode_address g i % 4096) agree.before (omega (arith, before, same, aligned g i, aligned g j))
      ] in
      let inside : p + 128 ≤ m = omega (arith, read, aligned g j) in
      let there : (c : Blocks) → take 128 (drop p (c (inode_address g j / 4096))) ≡ take 128 (drop p (take m (c b))) = λ c.
      ap (λ (k : ℕ). take 128 (drop p (c k))) same ∙ sym (part_of_front p 128 m (c b) inside) in
      ap (dinode_of g.version) (there others ∙ part ∙ sym (there blocks))

  -- the 128 bytes of the record of inode i
  pub only_inode : (i : ℕ) → i < inodes_of g → AgreeInMetadataBut g blocks others (inode_address g i / 4096) (inode_address g i % 4096) 128
      → OnlyInode g (metadata_length g (reading_of g blocks)) blocks others i
  only_inode i within agree =
      let b = inode_address g i / 4096 in
      let mine = inode_record_block g i ok within in
      record {
        groups = λ n below. group_same g blocks others ok n below (agree.elsewhere (group_start g n) (records_differ g n i ok below within));
        records = λ j below other. elim (cases_eq (inode_address g j / 4096) b) [
          | inl same ↦ other_record i j within below other same agree
          | inr away ↦ inode_same g blocks others ok j below (agree.elsewhere (inode_address g j / 4096) away)
        ];
        claims = λ j other. claims_beside (metadata_length g (reading_of g blocks)) b 4096 (inode_address g i % 4096) 128 mine.1 (omega arith) agree j;
      }

  pub claims_beside_inode : (i : ℕ) → i < inodes_of g → AgreeWhereReadBut g blocks others (inode_address g i / 4096) (inode_address g i % 4096) 128
      → (j : ℕ) → AgreeOnClaims (read_length g (reading_of g blocks)) (reading_of g blocks) blocks others j
  claims_beside_inode i within agree =
      claims_beside (read_length g (reading_of g blocks)) (inode_address g i / 4096) 4096 (inode_address g i % 4096) 128 (inode_record_block g i ok within).1 (omega arith) agree

  -- the 416 bytes of the record of group n
  pub only_group : (n : ℕ) → n < g.groups → AgreeInMetadataBut g blocks others (group_start g n) 0 416
      → OnlyGroup g (metadata_length g (reading_of g blocks)) blocks others n
  only_group n within agree =
      let b = group_start g n in
      let mine = group_record_block g n ok within in
      record {
        groups = λ m below other. group_same g blocks others ok m below (agree.elsewhere (group_start g m) (groups_apart g m n ok below within other));
        records = λ j below. inode_same g blocks others ok j below (agree.elsewhere (inode_address g j / 4096) (λ same. records_differ g n j ok within below (sym same)));
        claims = claims_beside (metadata_length g (reading_of g blocks)) b 416 0 416 mine.1 (omega arith) agree;
      }

  pub claims_beside_group : (n : ℕ) → n < g.groups → AgreeWhereReadBut g blocks others (group_start g n) 0 416
      → (j : ℕ) → AgreeOnClaims (read_length g (reading_of g blocks)) (reading_of g blocks) blocks others j
  claims_beside_group n within agree =
      claims_beside (read_length g (reading_of g blocks)) (group_start g n) 416 0 416 (group_record_block g n ok within).1 (omega arith) agree
