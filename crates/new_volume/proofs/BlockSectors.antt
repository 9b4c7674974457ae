-- The blocks of an image, and the sectors of a block.
use Rattle.std.proofs.Common.{◌≡◌, ℕ, ◌+◌, ◌-◌, ◌*◌, ◌<◌, ◌≤◌, inl, inr, ◌++◌, length, take, drop, replicate, sym, ◌∙◌, ap, arith, take_all}
use Rattle.std.proofs.Math.Seq.{drop-append-add}
use Rattle.std.proofs.lemmas.List.{length-take-le, length-drop, take-take, drop-take, drop-drop, take-append-le, drop-append-le, drop-replicate, take-replicate}
use Rattle.volume_model.specs.Format.{Image, sector, block}
use Rattle.volume_model.proofs.Sectors.{same_sectors, sector_past}
use Rattle.std.proofs.lemmas.Bool.{cases_lt}

-- a sector of a block
pub sector_in_block : (image : Image) (b j : ℕ) → j < 8 → sector (block image b) j ≡ sector image (8 * b + j)
sector_in_block image b j below =
    let split : 512 * j + (4096 - 512 * j) ≡ 4096 = omega arith in
    let place : 512 * (8 * b) + 512 * j ≡ 512 * (8 * b + j) = omega arith in
    ap (λ (n : ℕ). take 512 (drop (512 * j) (take n (drop (512 * (8 * b)) image)))) (sym split)
    ∙ ap (take 512) (drop-take (512 * j) (4096 - 512 * j) (drop (512 * (8 * b)) image))
    ∙ take-take 512 (4096 - 512 * j) (drop (512 * j) (drop (512 * (8 * b)) image)) (omega arith)
    ∙ ap (take 512) (drop-drop (512 * j) (512 * (8 * b)) image ∙ ap (λ (n : ℕ). drop n image) place)

length-block : (image : Image) (b : ℕ) → 4096 * b + 4096 ≤ length image → length (block image b) ≡ 4096
length-block image b fits = length-take-le 4096 (drop (512 * (8 * b)) image) (omega (arith, length-drop (512 * (8 * b)) image))

-- blocks with the same eight sectors are the same
pub same_block : (x y : Image) (b c : ℕ) → 4096 * b + 4096 ≤ length x → 4096 * c + 4096 ≤ length y
    → ((j : ℕ) → j < 8 → sector x (8 * b + j) ≡ sector y (8 * c + j)) → block x b ≡ block y c
same_block x y b c inside within each =
    let left = length-block x b inside in
    let right = length-block y c within in
    same_sectors (block x b) (block y c) (left ∙ sym right) (λ j.
    elim (cases_lt j 8) [
      | inl below ↦ sector_in_block x b j below ∙ each j below ∙ sym (sector_in_block y c j below)
      | inr past ↦ sector_past (block x b) j (omega (arith, left, past)) ∙ sym (sector_past (block y c) j (omega (arith, right, past)))
    ])

-- blocks of a list that is put together of two
pub block_front : (xs ys : Image) (b : ℕ) → 4096 * b + 4096 ≤ length xs → block (xs ++ ys) b ≡ block xs b
block_front xs ys b fits =
    ap (take 4096) (drop-append-le (512 * (8 * b)) xs ys (omega (arith, fits)))
    ∙ take-append-le 4096 (drop (512 * (8 * b)) xs) ys (omega (arith, fits, length-drop (512 * (8 * b)) xs))

pub block_behind : (xs ys : Image) (b c n : ℕ) → length xs ≡ 4096 * n → n + c ≡ b → block (xs ++ ys) b ≡ block ys c
block_behind xs ys b c n size place =
    let at : 512 * (8 * b) ≡ length xs + 512 * (8 * c) = omega (arith, size, place) in
    ap (λ (k : ℕ). take 4096 (drop k (xs ++ ys))) at ∙ ap (take 4096) (drop-append-add xs ys (512 * (8 * c)))

-- a list of one block
pub block_alone : (xs : Image) → length xs ≡ 4096 → block xs 0 ≡ xs
block_alone xs size = take_all 4096 xs (omega (arith, size))

-- Bytes that are taken of zeros are zeros: a block of them, and a sector.
pub zeros_in_zeros : (at size n : ℕ) → at + size ≤ n → take size (drop at (replicate n (let z : ℕ = 0 in z))) ≡ replicate size 0
zeros_in_zeros at size n fits = ap (take size) (drop-replicate at n (let z : ℕ = 0 in z)) ∙ take-replicate size (n - at) (let z : ℕ = 0 in z) (omega (arith, fits))

pub block_of_zeros : (b n : ℕ) → b < n → block (replicate (4096 * n) 0) b ≡ replicate 4096 0
block_of_zeros b n below = zeros_in_zeros (512 * (8 * b)) 4096 (4096 * n) (omega (arith, below))

pub sector_of_zeros : (k n : ℕ) → k < n → sector (replicate (512 * n) 0) k ≡ replicate 512 0
sector_of_zeros k n below = zeros_in_zeros (512 * k) 512 (512 * n) (omega (arith, below))
