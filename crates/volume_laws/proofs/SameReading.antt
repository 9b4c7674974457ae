-- Block maps that agree in what is read, but perhaps not in the bytes of files, have the same reading. Of one inode that
-- asks for its record, and for the blocks that it claims.
use Rattle.std.proofs.Common.{◌≡◌, ◌<◌, ◌≤◌, inl, inr, ℕ, ◌+◌, ◌-◌, ◌*◌, ◌/◌, ◌%◌, eqb, leb, true, false, cond, List, [], ◌++◌, map, take, drop, slice_index, Option, Some, None, sym, ap, ◌∙◌, arith, refl}
use Rattle.std.specs.List.{Contains, range_with_len}
use Rattle.std.proofs.Math.Nat.{mod-lt, div-lt_iff_lt-mul}
use Rattle.std.proofs.lemmas.Bool.{cases_Bool, and_parts, and_left, cond-true, cond-false, lt-leb, leb-true}
use Rattle.lufs_base.specs.Layout.{IsGeometry, group_start, blocks_of, region_of, inode_address}
use Rattle.lufs_base.specs.declared.geometry.Geometry.{Geometry}
use Rattle.lufs_base.specs.declared.geometry.Region.TheVariants.{GroupBlock, Inodes}
use Rattle.lufs_base.proofs.Places.{only_region, group_fits}
use Rattle.volume_model.specs.declared.inode.Dinode.{Dinode}
use Rattle.volume_model.specs.declared.directory.Slot.{Slot}
use Rattle.volume_model.specs.Format.{Blocks, inodes_of, GroupRecord, group_of, dinode_of, is_file, is_directory, chunk_of, pointers_of}
use Rattle.volume_model.specs.Sound.{NamedPointer, Single, UsedInode, InodeState, InUse, Reading, reading_of, Claim, claims_of, index_claim, pointer_claim, group_at, inode_at, state_at, state_of, named_pointers, used_inode, numbers_of, pointers_at, block_numbered, chunk_at, chunks_at, used_of, used_at, index_length, record_length, metadata_length, AgreeButInFileBytes}
use Rattle.volume_laws.proofs.Members.{Contains_head, All_range, map_same}
use Rattle.volume_laws.proofs.ClaimFacts.{used_in_volume, index_claimed, pointer_claimed}
use Rattle.volume_laws.proofs.ReadLengths.{same_front, same_part, records_read, metadata_index_read, pointer_read}
use Rattle.std.proofs.lemmas.List.FromFn.{length-map-range_with_len}
use Rattle.std.specs.Prelude.{min, replicate, length}
use Rattle.std.proofs.Math.Nat.{le-min}
use Rattle.lufs_base.specs.Fields.{u32_at}
use Rattle.lufs_base.proofs.Spelling.{number_in_same}

-- of the blocks that inode i claims both have the same bytes at the front, as many as `lengths` says
abbrev pub AgreeOnClaims : (ℕ → ℕ) → Reading → (blocks others : Blocks) → (i : ℕ) → Type 0
AgreeOnClaims lengths r blocks others i =
    (claim : Claim) → Contains (claims_of r) claim → claim.inode ≡ i → take (lengths claim.block) (others claim.block) ≡ take (lengths claim.block) (blocks claim.block)

-- block b is of the volume, and so many bytes of it are records
abbrev HasRecords : Geometry → ℕ → ℕ → Type 0
HasRecords g b n = (b < blocks_of g) × (record_length (region_of g b) ≡ n)

pub group_record_block : (g : Geometry) (n : ℕ) → IsGeometry g → n < g.groups → HasRecords g (group_start g n) 416
group_record_block g n ok within =
    (omega (arith, group_fits g n within, ok.bpg_low), ap record_length (sym (only_region g (group_start g n) (GroupBlock n) ok (within, refl))))

pub inode_record_block : (g : Geometry) (i : ℕ) → IsGeometry g → i < inodes_of g → HasRecords g (inode_address g i / 4096) 4096
inode_record_block g i ok within =
    let n = i / g.ipg in
    let b = inode_address g i / 4096 in
    let some : 0 < g.ipg = omega (arith, ok.ipg_low) in
    let group : n < g.groups = (div-lt_iff_lt-mul some).1 within in
    let place : i % g.ipg < g.ipg = mod-lt i some in
    let at : b ≡ group_start g n + 1 + (i % g.ipg) / 32 = omega arith in
    let low : group_start g n < b = omega (arith, at) in
    let high : b ≤ group_start g n + g.ipg / 32 = omega (arith, at, place, ok.ipg_step) in
    (omega (arith, high, group_fits g n group, ok.room), ap record_length (sym (only_region g b (Inodes n) ok (group, low, high))))

pub not_file : (mode : ℕ) → is_directory mode ≡ true → is_file mode ≡ false
not_file mode directory =
    let high = leb-true mode 0x41ff (and_parts (leb 0x4000 mode) (leb mode 0x41ff) directory).1 in
    and_left (leb 0x8000 mode) (leb mode 0x81ff) (lt-leb 0x8000 mode (omega (arith, high)))

-- what an inode's record leads to
pub used_from_record : (g : Geometry) (blocks : Blocks) (i : ℕ) (d : Dinode) → i < inodes_of g → inode_at g blocks i ≡ Some (Some d)
    → used_at (reading_of g blocks) i ≡ Some (used_inode blocks d)
used_from_record g blocks i d within is = used_in_volume g blocks i within ∙ ap (λ (o : Option (Option Dinode)). used_of (state_of blocks o)) is

state_from : (blocks others : Blocks) (o : Option (Option Dinode)) → ((d : Dinode) → o ≡ Some (Some d) → used_inode others d ≡ used_inode blocks d)
    → state_of others o ≡ state_of blocks o
state_from blocks others None same = refl
state_from blocks others (Some None) same = refl
state_from blocks others (Some (Some d)) same = ap InUse (same d refl)

-- a chunk of a directory lies in what is read of its block
chunk_inside : (k n : ℕ) → k < n → 512 * (k % 8) + 512 ≤ 512 * min 8 (n - 8 * (k / 8))
chunk_inside k n below =
    let left : k % 8 + 1 ≤ n - 8 * (k / 8) = omega (arith, below) in
    let few : k % 8 + 1 ≤ 8 = omega arith in
    let both : k % 8 + 1 ≤ min 8 (n - 8 * (k / 8)) = le-min few left in
    omega (arith, both)

pub chunks_counted : (blocks : Blocks) (d : Dinode) → is_directory d.mode ≡ true → length (chunks_at blocks d) ≡ d.size / 512
chunks_counted blocks d directory =
    let chunk = chunk_at blocks (numbers_of blocks d) in
    ap length (cond-true (is_directory d.mode) (map chunk (range_with_len 0 (d.size / 512))) [] directory)
    ∙ length-map-range_with_len chunk 0 (d.size / 512)

pub chunk_read : (blocks : Blocks) (d : Dinode) (k : ℕ) → is_directory d.mode ≡ true → k < d.size / 512 → 512 * (k % 8) + 512 ≤ index_length (used_inode blocks d) (k / 8)
chunk_read blocks d k directory within =
    let u = used_inode blocks d in
    let n = length u.chunks in
    let there : 512 * (k % 8) + 512 ≤ 512 * min 8 (n - 8 * (k / 8)) = chunk_inside k n (omega (arith, chunks_counted blocks d directory, within)) in
    let is : index_length u (k / 8) ≡ 512 * min 8 (n - 8 * (k / 8)) =
    cond-false (is_file d.mode) 4096 _ (not_file d.mode directory) ∙ cond-true (is_directory d.mode) (512 * min 8 (n - 8 * (k / 8))) _ directory in
    omega (arith, there, is)

-- The same numbers in the same bytes of a pointer block.
pointers_same : (x y : List ℕ) → take 4096 x ≡ take 4096 y → pointers_of x ≡ pointers_of y
pointers_same x y same =
    map_same (λ k. u32_at x (4 * k)) (λ k. u32_at y (4 * k)) (range_with_len 0 1024)
    (All_range (λ k. u32_at x (4 * k) ≡ u32_at y (4 * k)) 1024 (λ k below.
    number_in_same 4 (drop (4 * k) x) (drop (4 * k) y) (same_part (4 * k) 4 4096 x y same (omega (arith, below)))))

-- the numbers of an inode, where its pointer block has the same
pub numbers_from : (blocks others : Blocks) (d : Dinode) → (eqb (slice_index d.indirect 0) 0 ≡ false → take 4096 (others (slice_index d.indirect 0)) ≡ take 4096 (blocks (slice_index d.indirect 0)))
    → numbers_of others d ≡ numbers_of blocks d
numbers_from blocks others d same =
    let number = slice_index d.indirect 0 in
    let zeros : List ℕ = replicate 1024 0 in
    let pointers : pointers_at others number ≡ pointers_at blocks number = elim (cases_Bool (eqb number 0)) [
      | inl none ↦ cond-true (eqb number 0) zeros (pointers_of (others number)) none ∙ sym (cond-true (eqb number 0) zeros (pointers_of (blocks number)) none)
      | inr some ↦ ap (λ (l : List ℕ). cond (eqb number 0) zeros l) (pointers_same (others number) (blocks number) (same some))
    ] in
    ap (λ (l : List ℕ). d.direct ++ (l ++ [])) pointers

-- a part of a block with a number
pub numbered_from : (blocks others : Blocks) (number at k : ℕ) → (eqb number 0 ≡ false → take k (drop at (others number)) ≡ take k (drop at (blocks number)))
    → take k (drop at (block_numbered others number)) ≡ take k (drop at (block_numbered blocks number))
numbered_from blocks others number at k same =
    let part : List ℕ → List ℕ = λ l. take k (drop at l) in
    elim (cases_Bool (eqb number 0)) [
      | inl none ↦ ap part (cond-true (eqb number 0) [] (others number) none ∙ sym (cond-true (eqb number 0) [] (blocks number) none))
      | inr some ↦
          ap part (cond-false (eqb number 0) [] (others number) some) ∙ same some ∙ ap part (sym (cond-false (eqb number 0) [] (blocks number) some))
    ]

-- where the metadata of an inode's blocks is the same
module _ (g : Geometry) (blocks others : Blocks) (i : ℕ) (agree : AgreeOnClaims (metadata_length g (reading_of g blocks)) (reading_of g blocks) blocks others i) where
  numbers_same : (d : Dinode) → used_at (reading_of g blocks) i ≡ Some (used_inode blocks d) → numbers_of others d ≡ numbers_of blocks d
  numbers_same d used =
      let r = reading_of g blocks in
      let u = used_inode blocks d in
      let p : NamedPointer = record { name = Single; block = slice_index d.indirect 0 } in
      let among = Contains_head p [] in
      numbers_from blocks others d (λ some.
      same_front 4096 (metadata_length g r p.block) (others p.block) (blocks p.block) (agree (pointer_claim i p) (pointer_claimed r i u p used among some) refl)
      (pointer_read g r i u p used among some))

  -- a part of the block at an index of what is no file, and not past what is read of it
  pub numbered_part_same : (u : UsedInode) (index at k : ℕ) → used_at (reading_of g blocks) i ≡ Some u → is_file u.inode.mode ≡ false
      → at + k ≤ index_length u index
      → take k (drop at (block_numbered others (slice_index u.numbers index))) ≡ take k (drop at (block_numbered blocks (slice_index u.numbers index)))
  numbered_part_same u index at k used other inside =
      let r = reading_of g blocks in
      let number = slice_index u.numbers index in
      numbered_from blocks others number at k (λ some.
      same_part at k (metadata_length g r number) (others number) (blocks number) (agree (index_claim i u index) (index_claimed r i u index used some) refl)
      (omega (arith, inside, metadata_index_read g r i u index used some other)))

  chunks_same : (d : Dinode) → used_at (reading_of g blocks) i ≡ Some (used_inode blocks d) → chunks_at others d ≡ chunks_at blocks d
  chunks_same d used =
      let u = used_inode blocks d in
      let numbers = numbers_of blocks d in
      let indexes = range_with_len 0 (d.size / 512) in
      elim (cases_Bool (is_directory d.mode)) [
        | inl directory ↦
            let plain = not_file d.mode directory in
            ap (λ (l : List ℕ). cond (is_directory d.mode) (map (chunk_at others l) indexes) []) (numbers_same d used)
            ∙ ap (λ (l : List (Option (List Slot))). cond (is_directory d.mode) l [])
            (map_same (chunk_at others numbers) (chunk_at blocks numbers) indexes (All_range (λ k. chunk_at others numbers k ≡ chunk_at blocks numbers k) (d.size / 512) (λ k within.
            ap chunk_of (numbered_part_same u (k / 8) (512 * (k % 8)) 512 used plain (chunk_read blocks d k directory within)))))
        | inr other ↦
            cond-false (is_directory d.mode) (map (chunk_at others (numbers_of others d)) indexes) [] other
            ∙ sym (cond-false (is_directory d.mode) (map (chunk_at blocks numbers) indexes) [] other)
      ]

  -- the same record leads to the same
  pub state_same : i < inodes_of g → inode_at g others i ≡ inode_at g blocks i → state_at g others i ≡ state_at g blocks i
  state_same within inode =
      ap (state_of others) inode ∙ state_from blocks others (inode_at g blocks i) (λ d is.
      let used = used_from_record g blocks i d within is in
      ap (λ (l : List ℕ). record { inode = d; pointers = named_pointers d; numbers = l; chunks = chunks_at others d }) (numbers_same d used)
      ∙ ap (λ (l : List (Option (List Slot))). record { inode = d; pointers = named_pointers d; numbers = numbers_of blocks d; chunks = l }) (chunks_same d used))

-- the records in blocks whose metadata is the same
module _ (g : Geometry) (blocks others : Blocks) (ok : IsGeometry g) where
  record_part_same : (b at k n : ℕ) → take (metadata_length g (reading_of g blocks) b) (others b) ≡ take (metadata_length g (reading_of g blocks) b) (blocks b)
      → b < blocks_of g → record_length (region_of g b) ≡ n → at + k ≤ n → take k (drop at (others b)) ≡ take k (drop at (blocks b))
  record_part_same b at k n same below is inside =
      same_part at k (metadata_length g (reading_of g blocks) b) (others b) (blocks b) same
      (omega (arith, inside, records_read g (reading_of g blocks) b n below is))

  pub group_same : (n : ℕ) → n < g.groups
      → take (metadata_length g (reading_of g blocks) (group_start g n)) (others (group_start g n)) ≡ take (metadata_length g (reading_of g blocks) (group_start g n)) (blocks (group_start g n))
      → group_at g others n ≡ group_at g blocks n
  group_same n within same =
      let place = group_record_block g n ok within in
      ap (group_of g n) (record_part_same (group_start g n) 0 416 416 same place.0 place.1 (omega arith))

  pub inode_same : (i : ℕ) → i < inodes_of g
      → take (metadata_length g (reading_of g blocks) (inode_address g i / 4096)) (others (inode_address g i / 4096)) ≡ take (metadata_length g (reading_of g blocks) (inode_address g i / 4096)) (blocks (inode_address g i / 4096))
      → inode_at g others i ≡ inode_at g blocks i
  inode_same i within same =
      let at = inode_address g i in
      let place = inode_record_block g i ok within in
      ap (λ (bytes : List ℕ). dinode_of g.version bytes) (record_part_same (at / 4096) (at % 4096) 128 4096 same place.0 place.1 (omega arith))

  pub reading_same : AgreeButInFileBytes g blocks others → reading_of g others ≡ reading_of g blocks
  unfolding reading_of
  reading_same agree =
      let groups : map (group_at g others) (range_with_len 0 g.groups) ≡ map (group_at g blocks) (range_with_len 0 g.groups) =
      map_same (group_at g others) (group_at g blocks) (range_with_len 0 g.groups) (All_range (λ n. group_at g others n ≡ group_at g blocks n) g.groups (λ n within.
      group_same n within (agree (group_start g n)))) in
      let inodes : map (state_at g others) (range_with_len 0 (inodes_of g)) ≡ map (state_at g blocks) (range_with_len 0 (inodes_of g)) =
      map_same (state_at g others) (state_at g blocks) (range_with_len 0 (inodes_of g))
      (All_range (λ i. state_at g others i ≡ state_at g blocks i) (inodes_of g) (λ i within.
      state_same g blocks others i (λ claim here its. agree claim.block) within (inode_same i within (agree (inode_address g i / 4096))))) in
      ap (λ (l : List (Option GroupRecord)). record { groups = l; inodes = map (state_at g others) (range_with_len 0 (inodes_of g)) }) groups
      ∙ ap (λ (l : List InodeState). record { groups = map (group_at g blocks) (range_with_len 0 g.groups); inodes = l }) inodes
