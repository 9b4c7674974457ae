-- What the calls that write the groups' metadata leave.
use Rattle.std.proofs.Common.{◌≡◌, ℕ, zero, suc, ◌+◌, ◌-◌, ◌*◌, ◌/◌, ◌==◌, ◌<◌, ◌≤◌, ◌⊎◌, inl, inr, List, [], ◌∷◌, ◌++◌, length, replicate, Some, refl, sym, ◌∙◌, ap, arith, false}
use Rattle.std.proofs.Math.Nat.{mul-le-mul_right, add-mul, eq-or-lt_of_le}
use Rattle.std.proofs.lemmas.Bool.{ne_eqb, cond-false}
use Rattle.std.proofs.lemmas.List.{length-append, length-replicate}
use Rattle.std.proofs.lemmas.List.FromFn.{map-range_with_len_more}
use Rattle.lufs_base.specs.Layout.{IsGeometry, group_start}
use Rattle.lufs_base.specs.declared.geometry.Geometry.{Geometry}
use Rattle.volume_model.specs.Format.{Image, sector, overwritten, group_bytes, dinode_bytes, new_directory, chunk_bytes}
use Rattle.volume_model.specs.Crash.{image_after}
use Rattle.volume_model.specs.MkfsImage.{used_blocks, made_root, block_with}
use Rattle.volume_model.proofs.Sectors.{sector_before, sector_within, sector_behind, length-overwritten}
use Rattle.volume_model.proofs.Calls.{image_after-append}
use Rattle.new_volume.specs.Mkfs.{group_block_of, first_metadata, other_metadata, metadata_of, group_call, group_calls}

-- each block that is written has its size
pub length-group_block : (g : Geometry) (n : ℕ) → length (group_block_of g n) ≡ 4096
unfolding group_bytes
length-group_block g n = refl

pub length-root_inode : (g : Geometry) (moment : ℕ) → length (block_with 256 (dinode_bytes (Some (made_root g moment)))) ≡ 4096
unfolding dinode_bytes
length-root_inode g moment = refl

pub length-root_chunk : length (block_with 0 (chunk_bytes (new_directory 2 2))) ≡ 4096
length-root_chunk = refl

-- the groups after the first one have no root
not_first : (n : ℕ) → (suc n == 0) ≡ false
not_first n = ne_eqb (suc n) 0 (λ same. omega (arith, same))

pub metadata_of_other : (g : Geometry) (moment n : ℕ) → metadata_of g moment (suc n) ≡ other_metadata g (suc n)
metadata_of_other g moment n = cond-false (suc n == 0) (first_metadata g moment) (other_metadata g (suc n)) (not_first n)

pub used_of_other : (g : Geometry) (n : ℕ) → used_blocks g (suc n) ≡ 1 + g.ipg / 32
used_of_other g n = ap (λ (k : ℕ). 1 + g.ipg / 32 + k) (cond-false (suc n == 0) (let one : ℕ = 1 in one) 0 (not_first n)) ∙ (let all : 1 + g.ipg / 32 + 0 ≡ 1 + g.ipg / 32 = omega arith in all)

pub length-metadata : (g : Geometry) (moment n : ℕ) → IsGeometry g → length (metadata_of g moment n) ≡ 4096 * used_blocks g n
length-metadata g moment zero ok =
    let inode = block_with 256 (dinode_bytes (Some (made_root g moment))) in
    let chunk = block_with 0 (chunk_bytes (new_directory 2 2)) in
    let zeros : List ℕ = replicate (4096 * (g.ipg / 32 - 1)) 0 in
    omega (
      arith,
      ok.ipg_low,
      length-append (group_block_of g 0) (inode ++ (zeros ++ chunk)),
      length-append inode (zeros ++ chunk),
      length-append zeros chunk,
      length-replicate {A = ℕ} (4096 * (g.ipg / 32 - 1)) 0,
      length-group_block g 0,
      length-root_inode g moment,
      length-root_chunk,
    )
length-metadata g moment (suc n) ok =
    let zeros : List ℕ = replicate (4096 * (g.ipg / 32)) 0 in
    let size : length (other_metadata g (suc n)) ≡ 4096 * (1 + g.ipg / 32) =
    omega (arith, length-append (group_block_of g (suc n)) zeros, length-replicate {A = ℕ} (4096 * (g.ipg / 32)) 0, length-group_block g (suc n)) in
    ap length (metadata_of_other g moment n) ∙ size ∙ ap (λ (k : ℕ). 4096 * k) (sym (used_of_other g n))

-- groups follow each other
pub groups_rise : (g : Geometry) (i n : ℕ) → i < n → group_start g i + g.bpg ≤ group_start g n
groups_rise g i n less = let over : (i + 1) * g.bpg ≤ n * g.bpg = mul-le-mul_right g.bpg (omega arith) in omega (arith, over, add-mul i 1 g.bpg)

pub first_group : (g : Geometry) (n : ℕ) → IsGeometry g → group_start g n ≤ group_start g 0 → n ≡ 0
first_group g zero ok low = refl
first_group g (suc n) ok low = absurd (let rises = groups_rise g 0 (suc n) (omega arith) in omega (arith, rises, low, ok.bpg_low))

-- the metadata of a group lies in it
pub used_in_group : (g : Geometry) (n : ℕ) → IsGeometry g → used_blocks g n ≤ g.bpg
used_in_group g zero ok = omega (arith, ok.room, ok.bpg_low, ok.ipg_high)
used_in_group g (suc n) ok = omega (arith, ok.room, used_of_other g n)

module _ (g : Geometry) (moment : ℕ) (ok : IsGeometry g) where
  -- the image after the calls of the first n groups
  abbrev pub after : Image → ℕ → Image
  after image n = image_after image (group_calls g (first_metadata g moment) n)

  after_next : (image : Image) (n : ℕ) → after image (n + 1) ≡ overwritten (after image n) (8 * group_start g n) (metadata_of g moment n)
  after_next image n =
      ap (image_after image) (map-range_with_len_more (group_call g (first_metadata g moment)) 0 n n (omega arith)) ∙ image_after-append image (group_calls g (first_metadata g moment) n) (group_call g (first_metadata g moment) n ∷ [])

  -- what is written of group n lies in an image with room for one group more
  fits : (size n : ℕ) → 4096 * group_start g (n + 1) ≤ size → 512 * (8 * group_start g n) + length (metadata_of g moment n) ≤ size
  fits size n room = omega (arith, length-metadata g moment n ok, used_in_group g n ok, groups_rise g n (n + 1) (omega arith), room)

  pub length-after : (image : Image) (n : ℕ) → 4096 * group_start g n ≤ length image → length (after image n) ≡ length image
  length-after image zero room = refl
  length-after image (suc n) room =
      let before : length (after image n) ≡ length image = length-after image n (omega (arith, room, groups_rise g n (suc n) (omega arith))) in
      let next : n + 1 ≡ suc n = omega arith in
      let inside = fits (length (after image n)) n (omega (arith, before, room)) in
      ap (λ (k : ℕ). length (after image k)) (sym next) ∙ ap length (after_next image n)
      ∙ length-overwritten (after image n) (8 * group_start g n) (metadata_of g moment n) inside ∙ before

  -- the metadata of each of these groups stands in its place
  pub group_written : (image : Image) (n i j : ℕ) → 4096 * group_start g n ≤ length image → i < n → j < 8 * used_blocks g i
      → sector (after image n) (8 * group_start g i + j) ≡ sector (metadata_of g moment i) j
  group_written image zero i j room within below = absurd (omega arith)
  group_written image (suc n) i j room within below =
      let rest = groups_rise g n (suc n) (omega arith) in
      let size : length (after image n) ≡ length image = length-after image n (omega (arith, room, rest)) in
      let next : n + 1 ≡ suc n = omega arith in
      let inside = fits (length (after image n)) n (omega (arith, size, room)) in
      let step : sector (after image (suc n)) (8 * group_start g i + j) ≡ sector (overwritten (after image n) (8 * group_start g n) (metadata_of g moment n)) (8 * group_start g i + j) =
      ap (λ (k : ℕ). sector (after image k) (8 * group_start g i + j)) (sym next) ∙ ap (λ (a : Image). sector a (8 * group_start g i + j)) (after_next image n) in
      elim (eq-or-lt_of_le (let low : i ≤ n = omega (arith, within) in low)) [
        | inr less ↦
            step ∙ sector_before (after image n) (8 * group_start g n) (metadata_of g moment n) (8 * group_start g i + j) inside
            (omega (arith, below, used_in_group g i ok, groups_rise g i n less))
            ∙ group_written image n i j (omega (arith, room, rest)) less below
        | inl same ↦
            step ∙ sector_within (after image n) (8 * group_start g n) (metadata_of g moment n) (8 * group_start g i + j) j inside
            (omega (arith, ap (group_start g) same)) (omega (arith, length-metadata g moment n ok, below, ap (used_blocks g) same))
            ∙ ap (λ (k : ℕ). sector (metadata_of g moment k) j) (sym same)
      ]

  -- sector k is none of the metadata of group i
  abbrev pub IsOutside : ℕ → ℕ → Type 0
  IsOutside k i = (k < 8 * group_start g i) ⊎ (8 * group_start g i + 8 * used_blocks g i ≤ k)

  -- all other sectors stay
  pub others_stay : (image : Image) (n k : ℕ) → 4096 * group_start g n ≤ length image → ((i : ℕ) → i < n → IsOutside k i)
      → sector (after image n) k ≡ sector image k
  others_stay image zero k room outside = refl
  others_stay image (suc n) k room outside =
      let rest = groups_rise g n (suc n) (omega arith) in
      let size : length (after image n) ≡ length image = length-after image n (omega (arith, room, rest)) in
      let next : n + 1 ≡ suc n = omega arith in
      let inside = fits (length (after image n)) n (omega (arith, size, room)) in
      let step : sector (after image (suc n)) k ≡ sector (overwritten (after image n) (8 * group_start g n) (metadata_of g moment n)) k =
      ap (λ (m : ℕ). sector (after image m) k) (sym next) ∙ ap (λ (a : Image). sector a k) (after_next image n) in
      let before = others_stay image n k (omega (arith, room, rest)) (λ i less. outside i (omega (arith, less))) in
      elim (outside n (omega arith)) [
        | inl front ↦ step ∙ sector_before (after image n) (8 * group_start g n) (metadata_of g moment n) k inside front ∙ before
        | inr behind ↦
            step ∙ sector_behind (after image n) (8 * group_start g n) (metadata_of g moment n) k inside (omega (arith, behind, length-metadata g moment n ok)) ∙ before
      ]
