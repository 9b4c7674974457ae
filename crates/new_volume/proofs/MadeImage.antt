-- The calls of mkfs make the image that its definition names.
use Rattle.std.proofs.Common.{◌≡◌, ◌≢◌, ℕ, zero, suc, ◌+◌, ◌-◌, ◌*◌, ◌/◌, ◌<◌, ◌≤◌, ◌⊎◌, inl, inr, List, [], ◌∷◌, ◌++◌, length, replicate, Option, Some, None, refl, sym, ◌∙◌, ap, subst, arith, nat_lt, take_all, append_assoc}
use Rattle.std.specs.Prelude.{IfSome, ◌==◌}
use Rattle.std.proofs.lemmas.Bool.{cases_lt, cases_Bool, cond-true, cond-false, eqb-true, eqb-false, eq-eqb, ltb-true}
use Rattle.std.proofs.lemmas.List.{length-replicate, replicate-append-replicate}
use Rattle.lufs_base.specs.Layout.{IsGeometry, InRegion, group_start, blocks_of, region_of}
use Rattle.lufs_base.specs.declared.geometry.Geometry.{Geometry}
use Rattle.lufs_base.specs.declared.geometry.Region.{Region}
use Rattle.lufs_base.specs.declared.geometry.Region.TheVariants.{Boot, Super, Log, GroupBlock, Inodes, Body}
use Rattle.lufs_base.proofs.Places.{lies_in_region}
use Rattle.volume_model.specs.declared.device_call.DeviceCall.TheVariants.{Write, Flush}
use Rattle.volume_model.specs.Format.{Image, sector, block, overwritten, super_bytes, dinode_bytes, new_directory, chunk_bytes}
use Rattle.volume_model.specs.Crash.{image_after}
use Rattle.volume_model.specs.Log.{header_bytes}
use Rattle.volume_model.specs.MkfsImage.{used_blocks, root_block, made_header, made_root, block_with, made_in, made_block, IsMkfsImage}
use Rattle.volume_model.proofs.Sectors.{sector_before, sector_within, sector_behind, length-overwritten}
use Rattle.volume_model.proofs.Calls.{image_after-append}
use Rattle.new_volume.specs.Mkfs.{log_bytes, group_block_of, first_metadata, other_metadata, metadata_of, group_calls, mkfs_calls}
use Rattle.new_volume.proofs.BlockSectors.{same_block, block_front, block_behind, block_alone, block_of_zeros}
use Rattle.new_volume.proofs.RootBlock.{root_in_body}
use Rattle.new_volume.proofs.MadeBlocks.{made_by_region}
use Rattle.new_volume.proofs.Groups.{length-group_block, length-root_inode, length-root_chunk, length-metadata, metadata_of_other, used_of_other, groups_rise, first_group, used_in_group, length-after, group_written, IsOutside, others_stay}

-- the first block of the inode blocks, with the root's record, and the root's block
abbrev root_inode : Geometry → ℕ → List ℕ
root_inode g moment = block_with 256 (dinode_bytes (Some (made_root g moment)))

abbrev root_chunk : List ℕ
root_chunk = block_with 0 (chunk_bytes (new_directory 2 2))

-- the blocks of the first group's metadata
first_block_0 : (g : Geometry) (moment : ℕ) → block (first_metadata g moment) 0 ≡ group_block_of g 0
first_block_0 g moment =
    block_front (group_block_of g 0) _ 0 (omega (arith, length-group_block g 0)) ∙ block_alone (group_block_of g 0) (length-group_block g 0)

behind_group_block : (g : Geometry) (moment b c : ℕ) → 1 + c ≡ b
    → block (first_metadata g moment) b ≡ block (root_inode g moment ++ (replicate (4096 * (g.ipg / 32 - 1)) 0 ++ root_chunk)) c
behind_group_block g moment b c next = block_behind (group_block_of g 0) _ b c 1 (length-group_block g 0) next

first_block_1 : (g : Geometry) (moment : ℕ) → block (first_metadata g moment) 1 ≡ root_inode g moment
first_block_1 g moment =
    behind_group_block g moment 1 0 refl ∙ block_front (root_inode g moment) _ 0 (omega (arith, length-root_inode g moment)) ∙ block_alone (root_inode g moment) (length-root_inode g moment)

first_block_zeros : (g : Geometry) (moment b : ℕ) → 2 ≤ b → b ≤ g.ipg / 32 → block (first_metadata g moment) b ≡ replicate 4096 0
first_block_zeros g moment b low high =
    behind_group_block g moment b (b - 1) (omega (arith, low))
    ∙ block_behind (root_inode g moment) _ (b - 1) (b - 2) 1 (length-root_inode g moment) (omega (arith, low))
    ∙ block_front (replicate (4096 * (g.ipg / 32 - 1)) 0) root_chunk (b - 2) (omega (arith, low, high, length-replicate {A = ℕ} (4096 * (g.ipg / 32 - 1)) 0))
    ∙ block_of_zeros (b - 2) (g.ipg / 32 - 1) (omega (arith, low, high))

first_block_last : (g : Geometry) (moment : ℕ) → IsGeometry g → block (first_metadata g moment) (1 + g.ipg / 32) ≡ root_chunk
first_block_last g moment ok =
    behind_group_block g moment (1 + g.ipg / 32) (g.ipg / 32) refl
    ∙ block_behind (root_inode g moment) _ (g.ipg / 32) (g.ipg / 32 - 1) 1 (length-root_inode g moment) (omega (arith, ok.ipg_low))
    ∙ block_behind (replicate (4096 * (g.ipg / 32 - 1)) 0) root_chunk (g.ipg / 32 - 1) 0 (g.ipg / 32 - 1) (length-replicate {A = ℕ} (4096 * (g.ipg / 32 - 1)) 0) (omega arith)
    ∙ block_alone root_chunk length-root_chunk

-- the blocks of another group's metadata
other_block_0 : (g : Geometry) (n : ℕ) → block (other_metadata g n) 0 ≡ group_block_of g n
other_block_0 g n = block_front (group_block_of g n) _ 0 (omega (arith, length-group_block g n)) ∙ block_alone (group_block_of g n) (length-group_block g n)

other_block_zeros : (g : Geometry) (n b : ℕ) → 1 ≤ b → b ≤ g.ipg / 32 → block (other_metadata g n) b ≡ replicate 4096 0
other_block_zeros g n b low high =
    block_behind (group_block_of g n) _ b (b - 1) 1 (length-group_block g n) (omega (arith, low)) ∙ block_of_zeros (b - 1) (g.ipg / 32) (omega (arith, low, high))

-- the block that group n begins with
metadata_block_0 : (g : Geometry) (moment n : ℕ) → block (metadata_of g moment n) 0 ≡ group_block_of g n
metadata_block_0 g moment zero = first_block_0 g moment
metadata_block_0 g moment (suc n) = ap (λ (l : List ℕ). block l 0) (metadata_of_other g moment n) ∙ other_block_0 g (suc n)

-- its inode blocks but the root's
metadata_block_zeros : (g : Geometry) (moment n b : ℕ) → 1 ≤ b → b ≤ g.ipg / 32 → (n ≡ 0 → b ≡ 1 → ⊥) → block (metadata_of g moment n) b ≡ replicate 4096 0
metadata_block_zeros g moment zero b low high other =
    first_block_zeros g moment b (let more : 2 ≤ b = elim (cases_lt b 2) [
      | inl less ↦ let one : b ≡ 1 = omega (arith, low, less) in absurd (other refl one)
      | inr enough ↦ enough
    ] in more) high
metadata_block_zeros g moment (suc n) b low high other = ap (λ (l : List ℕ). block l b) (metadata_of_other g moment n) ∙ other_block_zeros g (suc n) b low high

-- the sectors of the log are those of its blocks
log_in_blocks : (g : Geometry) → IsGeometry g → log_bytes g ≡ block_with 0 (header_bytes made_header) ++ replicate (4096 * (g.log / 8 - 1)) 0
unfolding header_bytes
log_in_blocks g ok =
    let rest : 512 * (g.log - 1) ≡ 3584 + 4096 * (g.log / 8 - 1) = omega (arith, ok.log_low, ok.log_step) in
    ap (λ (n : ℕ). header_bytes made_header ++ replicate n 0) rest
    ∙ ap (λ (l : List ℕ). header_bytes made_header ++ l) (sym (replicate-append-replicate 3584 (4096 * (g.log / 8 - 1)) 0))
    ∙ sym (append_assoc (header_bytes made_header) (replicate 3584 0) (replicate (4096 * (g.log / 8 - 1)) 0))

length-header_block : length (block_with 0 (header_bytes made_header)) ≡ 4096
unfolding header_bytes
length-header_block = refl

pub length-log : (g : Geometry) → IsGeometry g → length (log_bytes g) ≡ 512 * g.log
unfolding header_bytes
length-log g ok = omega (arith, ok.log_low, length-replicate {A = ℕ} (512 * (g.log - 1)) 0)

pub length-super : (g : Geometry) → length (super_bytes g) ≡ 512
unfolding super_bytes
length-super g = refl

log_block_0 : (g : Geometry) → IsGeometry g → block (log_bytes g) 0 ≡ block_with 0 (header_bytes made_header)
log_block_0 g ok =
    ap (λ (l : List ℕ). block l 0) (log_in_blocks g ok) ∙ block_front (block_with 0 (header_bytes made_header)) _ 0 (omega (arith, length-header_block))
    ∙ block_alone (block_with 0 (header_bytes made_header)) length-header_block

log_block_zeros : (g : Geometry) (b : ℕ) → IsGeometry g → 1 ≤ b → b < g.log / 8 → block (log_bytes g) b ≡ replicate 4096 0
log_block_zeros g b ok low high =
    ap (λ (l : List ℕ). block l b) (log_in_blocks g ok)
    ∙ block_behind (block_with 0 (header_bytes made_header)) _ b (b - 1) 1 length-header_block (omega (arith, low)) ∙ block_of_zeros (b - 1) (g.log / 8 - 1) (omega (arith, low, high))

-- the sectors before the groups
pub room_before_groups : (g : Geometry) (size : ℕ) → 4096 * blocks_of g ≤ size → 4096 * (3 + g.log / 8) ≤ size
room_before_groups g size room = omega (arith, room, at_least_0 (g.groups * g.bpg))
  where
    at_least_0 : (n : ℕ) → 0 ≤ n
    at_least_0 n = omega arith

-- a write of the superblock's sector changes no other
pub other_sectors : (image : Image) (bytes : List ℕ) (k : ℕ) → length bytes ≡ 512 → 512 * 16 + 512 ≤ length image → k ≢ 16 → sector (overwritten image 16 bytes) k ≡ sector image k
other_sectors image bytes k size room other = elim (cases_lt k 16) [
  | inl front ↦ sector_before image 16 bytes k (omega (arith, size, room)) front
  | inr from ↦ elim (cases_lt 16 k) [
    | inl behind ↦ sector_behind image 16 bytes k (omega (arith, size, room)) (omega (arith, size, behind))
    | inr least ↦ let same : k ≡ 16 = omega (arith, from, least) in absurd (other same)
  ]
]

-- The four writes, and what each leaves.
module _ (g : Geometry) (moment : ℕ) (ok : IsGeometry g) (image : Image) (room : 4096 * blocks_of g ≤ length image) where
  abbrev cleared : Image
  cleared = overwritten image 16 (replicate 512 0)

  abbrev logged : Image
  logged = overwritten cleared 24 (log_bytes g)

  abbrev filled : Image
  filled = image_after logged (group_calls g (first_metadata g moment) g.groups)

  abbrev sealed : Image
  sealed = overwritten filled 16 (super_bytes g)

  large : 4096 * (3 + g.log / 8) ≤ length image
  large = room_before_groups g (length image) room

  length-cleared : length cleared ≡ length image
  length-cleared = length-overwritten image 16 (replicate 512 0) (omega (arith, large))

  log_fits : 512 * 24 + length (log_bytes g) ≤ length cleared
  log_fits = omega (arith, large, length-cleared, length-log g ok, ok.log_step)

  length-logged : length logged ≡ length image
  length-logged = length-overwritten cleared 24 (log_bytes g) log_fits ∙ length-cleared

  length-filled : length filled ≡ length image
  length-filled = length-after g moment ok logged g.groups (omega (arith, length-logged, room)) ∙ length-logged

  super_fits : 512 * 16 + length (super_bytes g) ≤ length filled
  super_fits = omega (arith, large, length-filled, length-super g)

  length-sealed : length sealed ≡ length image
  length-sealed = length-overwritten filled 16 (super_bytes g) super_fits ∙ length-filled

  all_calls : image_after image (mkfs_calls g moment) ≡ sealed
  all_calls =
      image_after-append logged (group_calls g (first_metadata g moment) g.groups ++ (Flush ∷ [])) (Write 16 (super_bytes g) ∷ (Flush ∷ []))
      ∙ ap (λ (a : Image). image_after a (Write 16 (super_bytes g) ∷ (Flush ∷ []))) (image_after-append logged (group_calls g (first_metadata g moment) g.groups) (Flush ∷ []))

  -- but for the superblock's sector, the last write changes nothing
  pub sealed_elsewhere : (k : ℕ) → k ≢ 16 → sector sealed k ≡ sector filled k
  sealed_elsewhere k other = other_sectors filled (super_bytes g) k (length-super g) (omega (arith, large, length-filled)) other

  -- a block after the superblock's is that of the groups' writes
  sealed_block : (b : ℕ) → 3 ≤ b → b < blocks_of g → block sealed b ≡ block filled b
  sealed_block b behind inside =
      same_block sealed filled b b (omega (arith, room, inside, length-sealed)) (omega (arith, room, inside, length-filled)) (λ j below.
      sealed_elsewhere (8 * b + j) (λ same. omega (arith, same, behind)))

  -- the blocks of a group's metadata are what was written of them
  group_block_made : (n p : ℕ) → n < g.groups → p < used_blocks g n → block sealed (group_start g n + p) ≡ block (metadata_of g moment n) p
  group_block_made n p within used =
      let rises = groups_rise g n g.groups within in
      let inside : group_start g n + p < blocks_of g = omega (arith, rises, used, used_in_group g n ok) in
      sealed_block (group_start g n + p) (omega arith) inside
      ∙ same_block filled (metadata_of g moment n) (group_start g n + p) p (omega (arith, room, inside, length-filled)) (omega (arith, used, length-metadata g moment n ok)) (λ j below.
      ap (λ (k : ℕ). sector filled k) (let at : 8 * (group_start g n + p) + j ≡ 8 * group_start g n + (8 * p + j) = omega arith in at)
      ∙ group_written g moment ok logged g.groups n (8 * p + j) (omega (arith, length-logged, room)) within (omega (arith, used, below)))

  -- so are those of the log
  log_block_made : (b : ℕ) → 3 ≤ b → b < group_start g 0 → block sealed b ≡ block (log_bytes g) (b - 3)
  log_block_made b low high =
      let rises : (i : ℕ) → group_start g 0 ≤ group_start g i = λ i. first_of_groups i in
      let inside : b < blocks_of g = omega (arith, high, rises g.groups) in
      sealed_block b low inside
      ∙ same_block filled (log_bytes g) b (b - 3) (omega (arith, room, inside, length-filled)) (omega (arith, low, high, length-log g ok, ok.log_step)) (λ j below.
      others_stay g moment ok logged g.groups (8 * b + j) (omega (arith, length-logged, room)) (λ i within. inl (omega (arith, high, below, rises i)))
      ∙ sector_within cleared 24 (log_bytes g) (8 * b + j) (8 * (b - 3) + j) log_fits (omega (arith, low)) (omega (arith, low, high, below, length-log g ok, ok.log_step)))
    where
      first_of_groups : (i : ℕ) → group_start g 0 ≤ group_start g i
      first_of_groups i = omega arith

  -- what is made of a block stands there
  by_region : (b : ℕ) (r : Region) → InRegion g b r → IfSome (made_in g moment b r) (λ bytes. block sealed b ≡ bytes)
  by_region b Boot lies = tt
  by_region b Super lies = tt
  by_region b Log lies = elim (cases_Bool (b == 3)) [
    | inl first ↦
        let same : b ≡ 3 = eqb-true b 3 first in
        log_block_made b lies.0 lies.1 ∙ ap (λ (c : ℕ). block (log_bytes g) c) (let at : b - 3 ≡ 0 = omega (arith, same) in at) ∙ log_block_0 g ok
        ∙ sym (cond-true (b == 3) _ _ first)
    | inr later ↦
        let other : b ≡ 3 → ⊥ = eqb-false b 3 later in
        log_block_made b lies.0 lies.1 ∙ log_block_zeros g (b - 3) ok (behind b lies.0 other) (omega (arith, lies.0, lies.1)) ∙ sym (cond-false (b == 3) _ _ later)
  ]
    where
      behind : (b : ℕ) → 3 ≤ b → b ≢ 3 → 1 ≤ b - 3
      behind b low other = elim (cases_lt 3 b) [
        | inl later ↦ omega (arith, later)
        | inr first ↦ let same : b ≡ 3 = omega (arith, low, first) in absurd (other same)
      ]
  by_region b (GroupBlock n) lies =
      ap (λ (c : ℕ). block sealed c) (let at : b ≡ group_start g n + 0 = omega (arith, lies.1) in at)
      ∙ group_block_made n 0 lies.0 (omega arith) ∙ metadata_block_0 g moment n
  by_region b (Inodes n) lies =
      let p = b - group_start g n in
      let at : b ≡ group_start g n + p = omega (arith, lies.1) in
      let within : p < used_blocks g n = omega (arith, lies.1, lies.2) in
      let there = ap (λ (c : ℕ). block sealed c) at ∙ group_block_made n p lies.0 within in
      elim (cases_Bool (b == group_start g 0 + 1)) [
        | inl root ↦
            let same : b ≡ group_start g 0 + 1 = eqb-true b (group_start g 0 + 1) root in
            let first : n ≡ 0 = first_group g n ok (omega (arith, same, lies.1)) in
            let second : p ≡ 1 = omega (arith, same, ap (group_start g) first) in
            there ∙ ap (λ (c : ℕ). block (metadata_of g moment n) c) second ∙ ap (λ (m : ℕ). block (metadata_of g moment m) 1) first ∙ first_block_1 g moment
            ∙ sym (cond-true (b == group_start g 0 + 1) _ _ root)
        | inr other ↦
            let differs : b ≡ group_start g 0 + 1 → ⊥ = eqb-false b (group_start g 0 + 1) other in
            there ∙ metadata_block_zeros g moment n p (omega (arith, lies.1)) (omega (arith, lies.2)) (λ first second. differs (omega (arith, at, second, ap (group_start g) first)))
            ∙ sym (cond-false (b == group_start g 0 + 1) _ _ other)
      ]
  by_region b (Body n) lies =
      let P : Option (List ℕ) → Type 0 = λ o. IfSome o (λ bytes. block sealed b ≡ bytes) in
      elim (cases_Bool (b == root_block g)) [
        | inl root ↦
            let same : b ≡ group_start g 0 + (1 + g.ipg / 32) = omega (arith, eqb-true b (root_block g) root) in
            let some : 0 < g.groups = ok.groups_low in
            let there : block sealed b ≡ root_chunk =
            ap (λ (c : ℕ). block sealed c) same ∙ group_block_made 0 (1 + g.ipg / 32) some (omega arith) ∙ first_block_last g moment ok in
            subst P (sym (cond-true (b == root_block g) (Some root_chunk) None root)) there
        | inr other ↦ subst P (sym (cond-false (b == root_block g) (Some root_chunk) None other)) tt
      ]

  block_made : (b : ℕ) → IfSome (made_block g moment b) (λ bytes. block sealed b ≡ bytes)
  unfolding made_block
  block_made b =
      let P : Option (List ℕ) → Type 0 = λ o. IfSome o (λ bytes. block sealed b ≡ bytes) in
      elim (cases_Bool (nat_lt b (blocks_of g))) [
        | inl test ↦
            let inside = ltb-true b (blocks_of g) test in
            let lies = lies_in_region g b ok inside in
            subst P (sym (made_by_region g moment ok b (region_of g b) lies inside)) (by_region b (region_of g b) lies)
        | inr past ↦ subst P (sym (cond-false (nat_lt b (blocks_of g)) (made_in g moment b (region_of g b)) None past)) tt
      ]

  -- a sector that nothing is made of lies after or before the log
  outside_log : (k : ℕ) → made_block g moment (k / 8) ≡ None → (k < 24) ⊎ (24 + g.log ≤ k)
  outside_log k none = elim (cases_lt k 24) [
    | inl before ↦ inl before
    | inr from ↦ elim (cases_lt k (24 + g.log)) [
      | inl within ↦
          let inside : k / 8 < group_start g 0 = omega (arith, within, ok.log_step) in
          let made = made_by_region g moment ok (k / 8) Log (omega (arith, from), inside) (omega (arith, inside)) in
          absurd (cc)
      | inr behind ↦ inr behind
    ]
  ]

  -- something is made of each block of a group's metadata
  used_is_made : (b i p : ℕ) → made_block g moment b ≡ None → i < g.groups → b ≡ group_start g i + p → p < used_blocks g i → ⊥
  used_is_made b i p none within at used =
      let inside : b < blocks_of g = omega (arith, at, used, used_in_group g i ok, groups_rise g i g.groups within) in
      elim (cases_lt 0 p) [
        | inr front ↦
            let made = made_by_region g moment ok b (GroupBlock i) (within, (let same : b ≡ group_start g i = omega (arith, at, front) in same)) inside in
            absurd (cc)
        | inl later ↦ elim (cases_lt (g.ipg / 32) p) [
          | inr inodes ↦
              let made = made_by_region g moment ok b (Inodes i) (within, (let low : group_start g i < b = omega (arith, at, later) in low), (let high : b ≤ group_start g i + g.ipg / 32 = omega (arith, at, inodes) in high)) inside in
              absurd (cc)
          | inl last ↦
              let first : i ≡ 0 = only_first i p used last in
              let same : b ≡ root_block g = omega (arith, at, last, used, ap (used_blocks g) first, ap (group_start g) first) in
              let made = made_by_region g moment ok b (Body 0) (subst (λ (c : ℕ). InRegion g c (Body 0)) (sym same) (root_in_body g ok)) inside in
              let root = cond-true (b == root_block g) (Some root_chunk) None (eq-eqb b (root_block g) same) in
              absurd (cc)
        ]
      ]
    where
      only_first : (i p : ℕ) → p < used_blocks g i → g.ipg / 32 < p → i ≡ 0
      only_first zero p used last = refl
      only_first (suc i) p used last = absurd (omega (arith, used, last, used_of_other g i))

  -- and is none of a group's metadata
  outside_group : (k i : ℕ) → made_block g moment (k / 8) ≡ None → i < g.groups → IsOutside g moment ok k i
  outside_group k i none within = elim (cases_lt k (8 * group_start g i)) [
    | inl before ↦ inl before
    | inr from ↦ elim (cases_lt k (8 * group_start g i + 8 * used_blocks g i)) [
      | inl used ↦
          let p = k / 8 - group_start g i in
          absurd (used_is_made (k / 8) i p none within (omega (arith, from)) (omega (arith, from, used)))
      | inr behind ↦ inr behind
    ]
  ]

  sector_kept : (k : ℕ) → k ≢ 16 → made_block g moment (k / 8) ≡ None → sector sealed k ≡ sector image k
  sector_kept k other none = sealed_elsewhere k other ∙ others_stay g moment ok logged g.groups k (omega (arith, length-logged, room)) (λ i within. outside_group k i none within) ∙ log_kept ∙ super_kept
    where
      log_kept : sector logged k ≡ sector cleared k
      log_kept = elim (outside_log k none) [
        | inl before ↦ sector_before cleared 24 (log_bytes g) k log_fits before
        | inr behind ↦ sector_behind cleared 24 (log_bytes g) k log_fits (omega (arith, behind, length-log g ok))
      ]

      super_kept : sector cleared k ≡ sector image k
      super_kept = other_sectors image (replicate 512 0) k refl (omega (arith, large)) other

  super_there : sector sealed 16 ≡ super_bytes g
  super_there =
      sector_within filled 16 (super_bytes g) 16 0 super_fits refl (omega (arith, length-super g)) ∙ take_all 512 (super_bytes g) (omega (arith, length-super g))

  pub made_of_image : IsMkfsImage g moment image (image_after image (mkfs_calls g moment))
  made_of_image = subst (IsMkfsImage g moment image) (sym all_calls) record { size = length-sealed; superblock = super_there; made = block_made; kept = sector_kept }
