-- Images that are put together of blocks.
use Rattle.std.proofs.Common.{◌≡◌, ◌≤◌, ◌<◌, ℕ, zero, suc, ◌+◌, ◌-◌, ◌*◌, ◌/◌, ◌%◌, List, [], ◌++◌, length, take, drop, sym, ap, ◌∙◌, arith}
use Rattle.std.proofs.lemmas.List.{length-append, take_at, drop-drop, drop-take, take-take, drop_all}
use Rattle.std.proofs.Math.Seq.{drop-append-add}
use Rattle.std.specs.List.{flat_map, range_with_len}
use Rattle.volume_model.specs.Format.{Image, sector, block}

pub length-blocks : (f : ℕ → List ℕ) (a n : ℕ) → ((i : ℕ) → i < n → length (f (a + i)) ≡ 4096) → length (flat_map f (range_with_len a n)) ≡ 4096 * n
length-blocks f a zero whole = omega arith
length-blocks f a (suc n) whole =
    let here : length (f a) ≡ 4096 = ap (λ (i : ℕ). length (f i)) (let at : a ≡ a + 0 = omega arith in at) ∙ whole 0 (omega arith) in
    let rest = length-blocks f (a + 1) n (λ i below. ap (λ (j : ℕ). length (f j)) (let at : (a + 1) + i ≡ a + (i + 1) = omega arith in at) ∙ whole (i + 1) (omega (arith, below))) in
    omega (arith, here, rest, length-append (f a) (flat_map f (range_with_len (a + 1) n)))

pub block_of_blocks : (f : ℕ → List ℕ) (a n b : ℕ) → ((i : ℕ) → i < n → length (f (a + i)) ≡ 4096) → b < n → block (flat_map f (range_with_len a n)) b ≡ f (a + b)
block_of_blocks f a zero b whole below = absurd (omega (arith, below))
block_of_blocks f a (suc n) zero whole below =
    let at : a + 0 ≡ a = omega arith in
    let here : length (f a) ≡ 4096 = ap (λ (i : ℕ). length (f i)) (sym at) ∙ whole 0 (omega arith) in
    take_at (f a) (flat_map f (range_with_len (a + 1) n)) 4096 here ∙ ap f (sym at)
block_of_blocks f a (suc n) (suc b) whole below =
    let at : a + 0 ≡ a = omega arith in
    let here : length (f a) ≡ 4096 = ap (λ (i : ℕ). length (f i)) (sym at) ∙ whole 0 (omega arith) in
    let place : 512 * (8 * suc b) ≡ length (f a) + 512 * (8 * b) = omega (arith, here) in
    let next : (a + 1) + b ≡ a + suc b = omega arith in
    ap (take 4096) (ap (λ (m : ℕ). drop m (f a ++ flat_map f (range_with_len (a + 1) n))) place ∙ drop-append-add (f a) (flat_map f (range_with_len (a + 1) n)) (512 * (8 * b)))
    ∙ block_of_blocks f (a + 1) n b (λ i less. ap (λ (j : ℕ). length (f j)) (let there : (a + 1) + i ≡ a + (i + 1) = omega arith in there) ∙ whole (i + 1) (omega (arith, less))) (omega (arith, below))
    ∙ ap f next

pub block_past : (image : Image) (b : ℕ) → length image ≤ 512 * (8 * b) → block image b ≡ []
block_past image b past = ap (take 4096) (drop_all (512 * (8 * b)) image past)

-- a sector is part of its block
pub sector_of_block : (image : Image) (k : ℕ) → sector image k ≡ take 512 (drop (512 * (k % 8)) (block image (k / 8)))
sector_of_block image k =
    let n : ℕ = 512 * (k % 8) in
    let rest : ℕ = 4096 - n in
    let far : List ℕ = drop (512 * (8 * (k / 8))) image in
    let low : k % 8 < 8 = omega arith in
    let whole : 4096 ≡ n + rest = omega arith in
    let place : 512 * (8 * (k / 8)) + n ≡ 512 * k = omega arith in
    sym (
    ap (λ (m : ℕ). take 512 (drop n (take m far))) whole ∙ ap (take 512) (drop-take n rest far) ∙ take-take 512 rest (drop n far) (omega arith)
    ∙ ap (take 512) (drop-drop n (512 * (8 * (k / 8))) image ∙ ap (λ (m : ℕ). drop m image) place)
    )
