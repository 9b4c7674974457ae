-- The blocks of a file after a write, and after another size.
use Rattle.std.proofs.Common.{◌≡◌, ◌≤◌, ℕ, zero, suc, ◌+◌, Bool, true, false, not, ◌&&◌, cond, List, [], ◌∷◌, ◌++◌, length, take, drop, replicate, Option, Some, None, refl, ap, arith, max, option_map}
use Rattle.std.specs.Prelude.{◌==◌, nat_lt, nat_le, is_some, unwrap_or}
use Rattle.std.specs.List.{count_by}
use Rattle.std.proofs.lemmas.List.Sums.{sum_by-cons}
use Rattle.volume_model.specs.Sound.{PointerName, Single, FileNode, File, claimed_by, size_in_blocks}
use Rattle.history_model.specs.FileBytes.{direct_size, zeros, zeroed, resized, reaches, overlaid, written_block, map_from, at_length, needs_pointers, written, cut_to, missing_from, blocks_cut}
use Rattle.history_model.specs.Wants.{blocks_in, write_wants}
use Rattle.history_rules.specs.Used.{IsRightFile}

abbrev Blocks : Type 0
Blocks = List (Option (List ℕ))

abbrev there : Option (List ℕ) → ℕ
there block = cond (is_some block) 1 0

count-cons : (block : Option (List ℕ)) (blocks : Blocks) → count_by is_some (block ∷ blocks) ≡ there block + count_by is_some blocks
count-cons block blocks = sum_by-cons there block blocks

resized_there : (old_size new_size index : ℕ) (block : Option (List ℕ)) → is_some (resized old_size new_size index block) ≡ is_some block
resized_there old_size new_size index block = by_test (nat_lt old_size new_size) block where
  by_test : (b : Bool) (x : Option (List ℕ)) → is_some (cond b (option_map (zeroed old_size index) x) x) ≡ is_some x
  by_test true None = refl
  by_test true (Some bytes) = refl
  by_test false x = refl

resized-count : (old_size new_size index : ℕ) (blocks : Blocks) → count_by is_some (map_from (resized old_size new_size) index blocks) ≡ count_by is_some blocks
resized-count old_size new_size index [] = refl
resized-count old_size new_size index (block ∷ blocks) =
    let here : there (resized old_size new_size index block) ≡ there block = ap (λ (b : Bool). cond b 1 0) (resized_there old_size new_size index block) in
    omega (
      arith,
      count-cons (resized old_size new_size index block) (map_from (resized old_size new_size) (index + 1) blocks),
      count-cons block blocks,
      resized-count old_size new_size (index + 1) blocks,
      here,
    )

-- the blocks of a write: those that were there, and those that were missing where its bytes go
module _ (old_size new_size offset : ℕ) (bytes : List ℕ) where
  abbrev fresh : ℕ → Blocks → List ℕ
  fresh index blocks = missing_from offset (length bytes) index blocks

  written_there : (index : ℕ) (block : Option (List ℕ)) (rest : List ℕ)
      → there (written_block old_size new_size offset bytes index block) + length rest ≡ there block + length (cond (reaches offset (length bytes) index && not (is_some block)) (index ∷ rest) rest)
  written_there index block rest = by_reach (reaches offset (length bytes) index) block (resized old_size new_size index block) (resized_there old_size new_size index block) where
    by_reach : (b : Bool) (x y : Option (List ℕ)) → is_some y ≡ is_some x
        → there (cond b (Some (overlaid offset bytes index (unwrap_or y zeros))) y) + length rest ≡ there x + length (cond (b && not (is_some x)) (index ∷ rest) rest)
    by_reach true None y same = omega arith
    by_reach true (Some old) y same = refl
    by_reach false x y same = ap (λ (b : Bool). cond b 1 0 + length rest) same

  written-count : (index : ℕ) (blocks : Blocks) → count_by is_some (map_from (written_block old_size new_size offset bytes) index blocks) ≡ count_by is_some blocks + length (fresh index blocks)
  written-count index [] = refl
  written-count index (block ∷ blocks) =
      omega (
        arith,
        count-cons (written_block old_size new_size offset bytes index block) (map_from (written_block old_size new_size offset bytes) (index + 1) blocks),
        count-cons block blocks,
        written-count (index + 1) blocks,
        written_there index block (fresh (index + 1) blocks),
      )

abbrev holes : (n m : ℕ) → Blocks
holes n m = take n (replicate m None)

holes-count : (n m : ℕ) → count_by is_some (holes n m) ≡ 0
holes-count zero m = refl
holes-count (suc n) zero = refl
holes-count (suc n) (suc m) = omega (arith, count-cons None (holes n m), holes-count n m)

-- more indexes are holes
padded-count : (blocks : Blocks) (n m : ℕ) → length blocks ≤ n → count_by is_some (take n (blocks ++ replicate m None)) ≡ count_by is_some blocks
padded-count [] n m fits = holes-count n m
padded-count (block ∷ blocks) zero m fits = absurd (omega arith)
padded-count (block ∷ blocks) (suc n) m fits =
    omega (arith, count-cons block (take n (blocks ++ replicate m None)), count-cons block blocks, padded-count blocks n m (omega arith))

-- fewer indexes lose the blocks at the others
cut-count : (blocks : Blocks) (n m : ℕ) → count_by is_some (take n (blocks ++ replicate m None)) + count_by is_some (drop n blocks) ≡ count_by is_some blocks
cut-count [] zero m = refl
cut-count [] (suc n) m = omega (arith, holes-count (suc n) m)
cut-count (block ∷ blocks) zero m = omega arith
cut-count (block ∷ blocks) (suc n) m =
    omega (arith, count-cons block (take n (blocks ++ replicate m None)), count-cons block blocks, cut-count blocks n m)

pointers_after : (needed : Bool) (pointers : List PointerName) → length pointers ≤ 1
    → length (cond needed (Single ∷ []) pointers) ≡ length pointers + cond (needed && length pointers == 0) 1 0
pointers_after false pointers few = omega arith
pointers_after true [] few = refl
pointers_after true (p ∷ []) few = refl
pointers_after true (p ∷ (q ∷ more)) few = absurd (omega arith)

pub claimed-written : (file : FileNode) (offset : ℕ) (bytes : List ℕ) → IsRightFile file
    → claimed_by (File (written file offset bytes)) ≡ claimed_by (File file) + blocks_in (write_wants file offset (length bytes))
claimed-written file offset bytes right =
    let size = max file.size (offset + length bytes) in
    let n = size_in_blocks size in
    let fits : length file.blocks ≤ n = omega (arith, right.blocks) in
    omega (
      arith,
      written-count file.size size offset bytes 0 (at_length n file.blocks),
      padded-count file.blocks n n fits,
      pointers_after (needs_pointers offset (length bytes)) file.pointers right.pointers,
    )

kept_pointers : (small : Bool) (pointers : List PointerName) → length (cond small [] pointers) + cond small (length pointers) 0 ≡ length pointers
kept_pointers true pointers = omega arith
kept_pointers false pointers = omega arith

pub claimed-cut_to : (file : FileNode) (size : ℕ) → claimed_by (File (cut_to file size)) + blocks_cut file size ≡ claimed_by (File file)
claimed-cut_to file size =
    let n = size_in_blocks size in
    omega (
      arith,
      resized-count file.size size 0 (at_length n file.blocks),
      cut-count file.blocks n n,
      kept_pointers (nat_le size direct_size) file.pointers,
    )
