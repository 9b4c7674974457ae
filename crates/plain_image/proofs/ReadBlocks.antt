-- Blocks that are read one after the other, and put behind each other.
use Rattle.std.proofs.Common.{◌≡◌, ◌<◌, ◌≤◌, inl, inr, ℕ, ◌+◌, ◌*◌, List, ◌++◌, length, take, drop, Option, Some, None, IfSome, sym, ap, ◌∙◌, subst, arith, take_all}
use Rattle.std.proofs.Math.Seq.{drop-append-add}
use Rattle.std.proofs.lemmas.Bool.{cases_lt}
use Rattle.std.proofs.lemmas.List.{length-drop, drop-append-le, take-append-le}
use Rattle.volume_model.specs.Format.{Image, block}
use Rattle.meta_store.specs.Store.{StoreTold, IsUnchanged}
use Rattle.meta_store.specs.Changing.{Changing, IsKept}

-- the first n blocks are those of the image
abbrev pub HasBlocks : ℕ → List ℕ → Image → Type 0
HasBlocks n read image = (b : ℕ) → b < n → block read b ≡ block image b

block_before : (xs ys : List ℕ) (b : ℕ) → 4096 * b + 4096 ≤ length xs → block (xs ++ ys) b ≡ block xs b
block_before xs ys b fits =
    ap (take 4096) (drop-append-le (512 * (8 * b)) xs ys (omega (arith, fits)))
    ∙ take-append-le 4096 (drop (512 * (8 * b)) xs) ys (omega (arith, fits, length-drop (512 * (8 * b)) xs))

block_last : (xs ys : List ℕ) (n : ℕ) → length xs ≡ 4096 * n → length ys ≡ 4096 → block (xs ++ ys) n ≡ ys
block_last xs ys n size long =
    let at : 512 * (8 * n) ≡ length xs + 0 = omega (arith, size) in
    ap (λ (k : ℕ). take 4096 (drop k (xs ++ ys))) at ∙ ap (take 4096) (drop-append-add xs ys 0) ∙ take_all 4096 ys (omega (arith, long))

blocks_more : (n : ℕ) (read bytes : List ℕ) (image : Image) → length read ≡ 4096 * n → length bytes ≡ 4096 → bytes ≡ block image n → HasBlocks n read image
    → HasBlocks (n + 1) (read ++ bytes) image
blocks_more n read bytes image size long is before b below =
    elim (cases_lt b n) [
      | inl less ↦ block_before read bytes b (omega (arith, less, size)) ∙ before b less
      | inr last ↦
          let same : b ≡ n = omega (arith, below, last) in
          ap (block (read ++ bytes)) same ∙ block_last read bytes n size long ∙ is ∙ ap (block image) (sym same)
    ]

-- one more block of what is told
pub told_more : (n : ℕ) (read bytes after : List ℕ) (content now : Option Image) → now ≡ content → after ≡ read ++ bytes → length read ≡ 4096 * n → length bytes ≡ 4096
    → IfSome now (λ image. bytes ≡ block image n) → IfSome content (λ image. HasBlocks n read image) → IfSome content (λ image. HasBlocks (n + 1) after image)
told_more n read bytes after None now same more size long here before = tt
told_more n read bytes after (Some image) now same more size long here before =
    subst (λ (l : List ℕ). HasBlocks (n + 1) l image) (sym more)
    (blocks_more n read bytes image size long (subst (λ (o : Option Image). IfSome o (λ image. bytes ≡ block image n)) same here) before)

-- fewer blocks
pub all_told : (n m : ℕ) (read : List ℕ) (content : Option Image) → m ≤ n → IfSome content (λ image. HasBlocks n read image) → IfSome content (λ image. HasBlocks m read image)
all_told n m read None few before = tt
all_told n m read (Some image) few before = λ b below. before b (omega (arith, below, few))

-- unchanged, and then again
pub unchanged_then : {old mid new : StoreTold} → IsUnchanged old mid → IsUnchanged mid new → IsUnchanged old new
unchanged_then first second = record {
  geometry = second.geometry ∙ first.geometry;
  content = second.content ∙ first.content;
  disk = record {
    sectors = second.disk.sectors ∙ first.disk.sectors;
    content = second.disk.content ∙ first.disk.content;
    listed = second.disk.listed ∙ first.disk.listed;
    calls = second.disk.calls ∙ first.disk.calls;
  };
}

pub kept_then : {old mid new : Changing} → IsKept old mid → IsKept mid new → IsKept old new
kept_then first second = record {
  released = λ b. second.released b ∙ first.released b;
  held = second.held ∙ first.held;
  taken = λ b. second.taken b ∙ first.taken b;
  freed = λ b. second.freed b ∙ first.freed b;
  room = second.room ∙ first.room;
}
