-- Blocks in a row: read from an image, and with deltas laid over each.
use Rattle.std.proofs.Common.{◌≡◌, ◌<◌, ◌≤◌, inl, inr, ℕ, ◌+◌, ◌-◌, ◌*◌, ◌/◌, ◌%◌, List, ◌++◌, length, take, drop, Option, None, Some, IfSome, Result, Ok, Err, OnOk, option_map, refl, sym, ap, subst, ◌∙◌, arith, length-take, length-drop, length-append}
use borrow.Rule.Slice.PartMut.{put_mid}
use Rattle.std.proofs.lemmas.Slice.{between-put_mid, take-put_mid_below, drop-put_mid}
use Rattle.std.proofs.lemmas.List.{drop-take, drop-drop, take-take, take_all}
use Rattle.std.proofs.lemmas.Bool.{cases_lt}
use Rattle.volume_model.specs.Format.{Image, block, sectors_from}
use Rattle.meta_store.specs.declared.laid.LaidDeltas.{LaidDeltas}
use Rattle.meta_store.specs.Laid.{laid_block, laid_over}
use Rattle.meta_store.specs.Store.{StoreTold, IsBlockRead, AreBlocksRead}
use Rattle.meta_store.specs.Index.{deltas_of, AreLaid}
use Rattle.meta_store.proofs.LaidBlocks.{length-laid_block, block_laid_over}

-- a block of those that were read from block `first` on
pub block_in_row : (image : Image) (first n k : ℕ) → 4096 * k + 4096 ≤ 512 * n → block (sectors_from image (8 * first) n) k ≡ block image (first + k)
block_in_row image first n k inside =
    let from = 512 * (8 * first) in
    let at = 512 * (8 * k) in
    let rest : List ℕ = drop from image in
    let parts : 512 * n ≡ at + (512 * n - at) = omega (arith, inside) in
    let place : from + at ≡ 512 * (8 * (first + k)) = omega arith in
    ap (λ (m : ℕ). take 4096 (drop at (take m rest))) parts
    ∙ ap (λ (l : List ℕ). take 4096 l) (drop-take at (512 * n - at) rest)
    ∙ take-take 4096 (512 * n - at) (drop at rest) (omega (arith, inside))
    ∙ ap (λ (l : List ℕ). take 4096 l) (drop-drop at from image)
    ∙ ap (λ (m : ℕ). take 4096 (drop m image)) place

-- each block of those that were read is one of the image
pub row_read : (image : Image) (first n : ℕ) (out : List ℕ) → length out % 4096 ≡ 0 → n ≡ length out / 512 → out ≡ sectors_from image (8 * first) n
    → (k : ℕ) → 4096 * k < length out → block out k ≡ block image (first + k)
row_read image first n out whole count read k below =
    ap (λ (l : List ℕ). block l k) read ∙ block_in_row image first n k (omega (arith, whole, count, below))

-- and with its deltas laid over, it is one of what is told
pub row_laid : (present : Option Image) (laid : LaidDeltas) (first n : ℕ) (read out : List ℕ) → length read % 4096 ≡ 0 → n ≡ length read / 512
    → IfSome present (λ image. read ≡ sectors_from image (8 * first) n) → AreLaid laid first read out → length out ≡ length read
    → IfSome (option_map (laid_over (deltas_of laid)) present) (λ image. (k : ℕ) → 4096 * k < length out → block out k ≡ block image (first + k))
row_laid None laid first n read out whole count is laid_all same = tt
row_laid (Some image) laid first n read out whole count is laid_all same = λ k below.
    laid_all k (omega (arith, below, same))
    ∙ ap (λ (bytes : List ℕ). laid_block (deltas_of laid (first + k)) bytes) (row_read image first n read whole count is k (omega (arith, below, same)))
    ∙ block_laid_over (deltas_of laid) image (first + k)

-- a row of one block
pub only_block : (out : List ℕ) → length out ≡ 4096 → block out 0 ≡ out
only_block out size = take_all 4096 out (omega (arith, size))

only_in : (content : Option Image) (b : ℕ) (out : List ℕ) → length out ≡ 4096 → IfSome content (λ image. (k : ℕ) → 4096 * k < length out → block out k ≡ block image (b + k))
    → IfSome content (λ image. out ≡ block image b)
only_in None b out size read = tt
only_in (Some image) b out size read =
    let here : b + 0 ≡ b = omega arith in
    sym (only_block out size) ∙ read 0 (omega (arith, size)) ∙ ap (λ (n : ℕ). block image n) here

pub only_read : {T E : Type 0} (result : Result T E) (told : StoreTold) (b : ℕ) (out : List ℕ) → length out ≡ 4096 → OnOk result (AreBlocksRead b out told) → OnOk result (IsBlockRead b out told)
only_read (Err e) told b out size read = tt
only_read (Ok x) told b out size read = only_in told.content b out size read

-- a block whose part of a row is put, and the blocks before and after it
pub block_put_here : (l new : List ℕ) (k n : ℕ) → n ≡ 4096 → length new ≡ 4096 → 4096 * k ≤ length l → block (put_mid (4096 * k) n l new) k ≡ new
block_put_here l new k n part size inside =
    let at = 4096 * k in
    let all = put_mid at n l new in
    let place : 512 * (8 * k) ≡ at = omega arith in
    let count : 4096 ≡ at + 4096 - at = omega arith in
    ap (λ (m : ℕ). take 4096 (drop m all)) place
    ∙ ap (λ (m : ℕ). take m (drop at all)) count
    ∙ between-put_mid at n l new (at + 4096) inside (omega (arith, size))

pub block_put_after : (l new : List ℕ) (k n j : ℕ) → j < k → 4096 * k ≤ length l → block (put_mid (4096 * k) n l new) j ≡ block l j
block_put_after l new k n j before inside =
    let from = 512 * (8 * j) in
    sym (drop-take from 4096 (put_mid (4096 * k) n l new))
    ∙ ap (λ (all : List ℕ). drop from all) (take-put_mid_below (4096 * k) n l new (from + 4096) (omega (arith, before)) inside)
    ∙ drop-take from 4096 l

pub block_put_before : (l new : List ℕ) (k n j : ℕ) → n ≡ 4096 → length new ≡ 4096 → k < j → 4096 * k ≤ length l → block (put_mid (4096 * k) n l new) j ≡ block l j
block_put_before l new k n j part size after inside =
    ap (λ (rest : List ℕ). take 4096 rest) (drop-put_mid (4096 * k) n l new (512 * (8 * j)) (omega (arith, part, after)) inside (size ∙ sym part))

length_put : (l new : List ℕ) (k n : ℕ) → n ≡ 4096 → length new ≡ 4096 → 4096 * k + 4096 ≤ length l → length (put_mid (4096 * k) n l new) ≡ length l
length_put l new k n part size inside =
    let at = 4096 * k in
    let rest : List ℕ = drop n (drop at l) in
    omega (arith, length-append (take at l) (new ++ rest), length-append new rest, length-take at l, length-drop at l, length-drop n (drop at l), part, size, inside)

-- The blocks before block k have their deltas laid over, and the others are as they were.
pub record AreLaidTo (laid : LaidDeltas) (first k : ℕ) (old now : List ℕ) : Type 0 where
  pub size : length now ≡ length old
  pub done : (j : ℕ) → j < k → block now j ≡ laid_block (deltas_of laid (first + j)) (block old j)
  pub rest : (j : ℕ) → k ≤ j → 4096 * j < length old → block now j ≡ block old j

pub none_laid : (laid : LaidDeltas) (first : ℕ) (old : List ℕ) → AreLaidTo laid first 0 old old
none_laid laid first old = record { size = refl; done = λ j below. absurd (omega (arith, below)); rest = λ j from inside. refl }

pub one_laid : (laid : LaidDeltas) (first k n : ℕ) (old now part new : List ℕ) → AreLaidTo laid first k old now → 4096 * k + 4096 ≤ length old → n ≡ 4096
    → part ≡ take n (drop (4096 * k) now) → new ≡ laid_block (deltas_of laid (first + k)) part → AreLaidTo laid first (k + 1) old (put_mid (4096 * k) n now new)
one_laid laid first k n old now part new before inside count taken is =
    let within : 4096 * k ≤ length now = omega (arith, inside, before.size) in
    let place : 4096 * k ≡ 512 * (8 * k) = omega arith in
    let read : part ≡ block now k = taken ∙ ap (λ (m : ℕ). take m (drop (4096 * k) now)) count ∙ ap (λ (m : ℕ). take 4096 (drop m now)) place in
    let whole : length part ≡ 4096 =
    ap length read ∙ omega (arith, length-take 4096 (drop (512 * (8 * k)) now), length-drop (512 * (8 * k)) now, inside, before.size) in
    let length_new : length new ≡ 4096 = ap length is ∙ length-laid_block (deltas_of laid (first + k)) part ∙ whole in
    let size = length_put now new k n count length_new (omega (arith, inside, before.size)) in
    let here : block (put_mid (4096 * k) n now new) k ≡ laid_block (deltas_of laid (first + k)) (block old k) =
    block_put_here now new k n count length_new within ∙ is
    ∙ ap (λ (bytes : List ℕ). laid_block (deltas_of laid (first + k)) bytes) (read ∙ before.rest k (omega arith) (omega (arith, inside))) in
    record {
      size = size ∙ before.size;
      done = λ j below. elim (cases_lt j k) [
        | inl earlier ↦ block_put_after now new k n j earlier within ∙ before.done j earlier
        | inr from ↦
            let same : k ≡ j = omega (arith, below, from) in
            subst (λ (m : ℕ). block (put_mid (4096 * k) n now new) m ≡ laid_block (deltas_of laid (first + m)) (block old m)) same here
      ];
      rest = λ j from inside. block_put_before now new k n j count length_new (omega (arith, from)) within ∙ before.rest j (omega (arith, from)) inside;
    }
