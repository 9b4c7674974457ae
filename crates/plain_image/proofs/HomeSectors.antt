-- The sectors of an image whose home blocks are written one after the other.
use Rattle.std.proofs.Common.{◌≡◌, ◌<◌, ◌≤◌, ◌⊎◌, inl, inr, ℕ, zero, suc, ◌+◌, ◌-◌, ◌*◌, ◌/◌, ◌%◌, Bool, cond, List, [], ◌∷◌, length, take, drop, refl, sym, ap, ◌∙◌, subst, arith}
use Rattle.std.specs.List.{filter, range_with_len}
use Rattle.std.proofs.lemmas.Bool.{cases_Bool, cases_lt}
use Rattle.std.proofs.lemmas.List.{length-take-le, length-drop, take-take, drop-take, drop-drop, map-append}
use Rattle.lufs_base.specs.Layout.{group_start, blocks_of}
use Rattle.lufs_base.specs.declared.geometry.Geometry.{Geometry}
use Rattle.volume_model.specs.Format.{Image, sector, block, overwritten}
use Rattle.volume_model.specs.Crash.{image_after}
use Rattle.volume_model.proofs.Calls.{image_after-append}
use Rattle.volume_model.proofs.Sectors.{same_sectors, sector_past, length-overwritten, sector_before, sector_within, sector_behind}
use Rattle.plain_image.specs.HomeBlocks.{IsHome, differs}
use Rattle.plain_image.specs.WrittenBack.{home_call, home_calls}
use Rattle.plain_image.proofs.ChangedLists.{same_bytes, changed_more}

-- a sector of a block
pub sector_in_block : (image : Image) (b j : ℕ) → j < 8 → sector (block image b) j ≡ sector image (8 * b + j)
sector_in_block image b j below =
    let split : 512 * j + (4096 - 512 * j) ≡ 4096 = omega arith in
    let place : 512 * (8 * b) + 512 * j ≡ 512 * (8 * b + j) = omega arith in
    ap (λ (n : ℕ). take 512 (drop (512 * j) (take n (drop (512 * (8 * b)) image)))) (sym split)
    ∙ ap (take 512) (drop-take (512 * j) (4096 - 512 * j) (drop (512 * (8 * b)) image))
    ∙ take-take 512 (4096 - 512 * j) (drop (512 * j) (drop (512 * (8 * b)) image)) (omega arith)
    ∙ ap (take 512) (drop-drop (512 * j) (512 * (8 * b)) image ∙ ap (λ (n : ℕ). drop n image) place)

pub length-block : (image : Image) (b : ℕ) → 4096 * b + 4096 ≤ length image → length (block image b) ≡ 4096
length-block image b fits = length-take-le 4096 (drop (512 * (8 * b)) image) (omega (arith, length-drop (512 * (8 * b)) image))

-- the sector of a block, by its number in the image
sector_by_number : (image : Image) (b k : ℕ) → k / 8 ≡ b → sector (block image b) (k % 8) ≡ sector image k
sector_by_number image b k is = sector_in_block image b (k % 8) (omega arith) ∙ ap (sector image) (let at : 8 * b + k % 8 ≡ k = omega (arith, is) in at)

-- blocks with the same sectors are the same
pub same_block : (x y : Image) (b : ℕ) → 4096 * b + 4096 ≤ length x → 4096 * b + 4096 ≤ length y → ((k : ℕ) → k / 8 ≡ b → sector x k ≡ sector y k) → block x b ≡ block y b
same_block x y b inside within each =
    let left = length-block x b inside in
    let right = length-block y b within in
    same_sectors (block x b) (block y b) (left ∙ sym right) (λ j.
    elim (cases_lt j 8) [
      | inl below ↦ sector_in_block x b j below ∙ each (8 * b + j) (omega (arith, below)) ∙ sym (sector_in_block y b j below)
      | inr past ↦ sector_past (block x b) j (omega (arith, left, past)) ∙ sym (sector_past (block y b) j (omega (arith, right, past)))
    ])

-- the home blocks below block n are those of the image, and all else is as it was
pub record IsWrittenUpTo (g : Geometry) (image : Image) (n : ℕ) (before now : Image) : Type 0 where
  pub size : length now ≡ length before
  pub done : (k : ℕ) → group_start g 0 ≤ k / 8 → k / 8 < n → sector now k ≡ sector image k
  pub rest : (k : ℕ) → (k / 8 < group_start g 0) ⊎ (n ≤ k / 8) → sector now k ≡ sector before k

-- a write of a block of the image, and the sectors that it leaves
module _ (image now : Image) (n : ℕ) (fits : 4096 * n + 4096 ≤ length now) (inside : 4096 * n + 4096 ≤ length image) where
  abbrev put : Image
  put = overwritten now (8 * n) (block image n)

  long : length (block image n) ≡ 4096
  long = length-block image n inside

  pub put_size : length put ≡ length now
  put_size = length-overwritten now (8 * n) (block image n) (omega (arith, long, fits))

  pub put_there : (k : ℕ) → k / 8 ≡ n → sector put k ≡ sector image k
  put_there k is = sector_within now (8 * n) (block image n) k (k % 8) (omega (arith, long, fits)) (omega (arith, is)) (omega (arith, long)) ∙ sector_by_number image n k is

  pub put_beside : (k : ℕ) → (k / 8 < n) ⊎ (n < k / 8) → sector put k ≡ sector now k
  put_beside k (inl less) = sector_before now (8 * n) (block image n) k (omega (arith, long, fits)) (omega (arith, less))
  put_beside k (inr more) = sector_behind now (8 * n) (block image n) k (omega (arith, long, fits)) (omega (arith, long, more))

module _ (g : Geometry) (image before : Image) (room : 4096 * blocks_of g ≤ length before) (enough : 4096 * blocks_of g ≤ length image) where
  pub written_none : IsWrittenUpTo g image (group_start g 0) before before
  written_none = record { size = refl; done = λ k low high. absurd (omega (arith, low, high)); rest = λ k out. refl }

  module _ (n : ℕ) (home : IsHome g n) (now : Image) (is : IsWrittenUpTo g image n before now) where
    fits : 4096 * n + 4096 ≤ length now
    fits = omega (arith, home.high, room, is.size)

    inside : 4096 * n + 4096 ≤ length image
    inside = omega (arith, home.high, enough)

    pub block_put : IsWrittenUpTo g image (n + 1) before (overwritten now (8 * n) (block image n))
    block_put = record {
      size = put_size image now n fits inside ∙ is.size;
      done = λ k low high. elim (cases_lt (k / 8) n) [
        | inl less ↦ put_beside image now n fits inside k (inl less) ∙ is.done k low less
        | inr last ↦ put_there image now n fits inside k (omega (arith, last, high))
      ];
      rest = λ k out. elim out [
        | inl low ↦ put_beside image now n fits inside k (inl (omega (arith, low, home.low))) ∙ is.rest k (inl low)
        | inr high ↦ put_beside image now n fits inside k (inr (omega (arith, high))) ∙ is.rest k (inr (omega (arith, high)))
      ];
    }

    pub block_kept : block before n ≡ block image n → IsWrittenUpTo g image (n + 1) before now
    block_kept same = record {
      size = is.size;
      done = λ k low high. elim (cases_lt (k / 8) n) [
        | inl less ↦ is.done k low less
        | inr last ↦
            let at : k / 8 ≡ n = omega (arith, last, high) in
            is.rest k (inr last) ∙ sym (sector_by_number before n k at) ∙ ap (λ (l : List ℕ). sector l (k % 8)) same ∙ sector_by_number image n k at
      ];
      rest = λ k out. elim out [
        | inl low ↦ is.rest k (inl low)
        | inr high ↦ is.rest k (inr (omega (arith, high)))
      ];
    }

    -- what stands in block n is what stood there before
    pub block_still : block now n ≡ block before n
    block_still = same_block now before n fits (omega (arith, home.high, room)) (λ k at. is.rest k (inr (omega (arith, at))))

  -- the home block where all are written
  pub block_done : (now : Image) (b : ℕ) → IsWrittenUpTo g image (blocks_of g) before now → IsHome g b → block now b ≡ block image b
  block_done now b is home =
      same_block now image b (omega (arith, home.high, room, is.size)) (omega (arith, home.high, enough))
      (λ k at. is.done k (omega (arith, at, home.low)) (omega (arith, at, home.high)))

  abbrev changed : ℕ → List ℕ
  changed m = filter (differs image before) (range_with_len (group_start g 0) m)

  -- the content once the first home blocks that differ are written
  written_first : (m : ℕ) → group_start g 0 + m ≤ blocks_of g → IsWrittenUpTo g image (group_start g 0 + m) before (image_after before (home_calls image (changed m)))
  written_first zero fits = subst (λ (n : ℕ). IsWrittenUpTo g image n before before) (let at : group_start g 0 ≡ group_start g 0 + zero = omega arith in at) written_none
  written_first (suc m) fits =
      let n : ℕ = group_start g 0 + m in
      let home : IsHome g n = record { low = omega arith; high = omega (arith, fits) } in
      let mid : Image = image_after before (home_calls image (changed m)) in
      let is : IsWrittenUpTo g image n before mid = written_first m (omega (arith, fits)) in
      let more : List ℕ = cond (differs image before n) (n ∷ []) [] in
      let split : image_after before (home_calls image (changed (suc m))) ≡ image_after mid (home_calls image more) =
      ap (λ (l : List ℕ). image_after before (home_calls image l)) (changed_more (differs image before) (group_start g 0) m)
      ∙ ap (image_after before) (map-append (home_call image) (changed m) more) ∙ image_after-append before (home_calls image (changed m)) (home_calls image more) in
      let after : IsWrittenUpTo g image (n + 1) before (image_after mid (home_calls image more)) = elim (cases_Bool (differs image before n)) [
        | inl other ↦
            subst (λ (b : Bool). IsWrittenUpTo g image (n + 1) before (image_after mid (home_calls image (cond b (n ∷ []) [])))) (sym other) (block_put n home mid is)
        | inr same ↦
            subst (λ (b : Bool). IsWrittenUpTo g image (n + 1) before (image_after mid (home_calls image (cond b (n ∷ []) [])))) (sym same)
            (block_kept n home mid is (same_bytes (block before n) (block image n) same))
      ] in
      subst (λ (k : ℕ). IsWrittenUpTo g image k before (image_after before (home_calls image (changed (suc m))))) (let at : n + 1 ≡ group_start g 0 + suc m = omega arith in at)
      (subst (λ (i : Image). IsWrittenUpTo g image (n + 1) before i) (sym split) after)

  pub written_below : (n : ℕ) → group_start g 0 ≤ n → n ≤ blocks_of g → IsWrittenUpTo g image n before (image_after before (home_calls image (changed (n - group_start g 0))))
  written_below n low high =
      let at : group_start g 0 + (n - group_start g 0) ≡ n = omega (arith, low) in
      subst (λ (k : ℕ). IsWrittenUpTo g image k before (image_after before (home_calls image (changed (n - group_start g 0))))) at (written_first (n - group_start g 0) (omega (arith, at, high)))
