-- The blocks of a file, by the numbers of its inode.
use Rattle.std.proofs.Common.{◌≡◌, ◌<◌, ◌≤◌, inl, inr, ℕ, zero, suc, ◌+◌, ◌-◌, eqb, Bool, true, false, not, cond, List, [], ◌∷◌, ◌++◌, length, map, take, drop, replicate, get_or, slice_index, Option, Some, None, is_some, refl, sym, ap, ◌∙◌, arith}
use Rattle.std.specs.List.{range_with_len, slice_get}
use Rattle.std.specs.Option.{option_map, option_flatten}
use Rattle.std.proofs.lemmas.Bool.{cases_Bool, cases_lt, eqb-true}
use Rattle.std.proofs.lemmas.List.{get_or-append_right, get_or-replicate, get_or-take, get_or_append_left, get_or_past, get_or-drop, length-append, length-replicate, length-take-le}
use Rattle.std.proofs.lemmas.List.FromFn.{get_or-map-range_with_len, length-map-range_with_len}
use Rattle.std.proofs.lemmas.List.Sums.{AllPass-from_list_all}
use Rattle.std.proofs.lemmas.Option.{slice_get_past}
use Rattle.lufs_base.specs.Fields.{are_zeros}
use Rattle.lufs_base.specs.Layout.{block_size}
use Rattle.volume_model.specs.Format.{Blocks}
use Rattle.volume_model.specs.Sound.{UsedInode, size_in_blocks, file_block, file_blocks}
use Rattle.volume_laws.proofs.Members.{entry_of_range}
use Rattle.history_model.specs.FileBytes.{at_length, block_at}
use Rattle.file_map.specs.Mapped.{numbered}
use Rattle.file_map.specs.Needed.{file_of_inode}

-- where all numbers past the first n are 0, each is
pub past_zeros : (numbers : List ℕ) (n index : ℕ) → are_zeros (drop n numbers) ≡ true → n ≤ index → slice_index numbers index ≡ 0
past_zeros numbers n index zeros past =
    let at : n + (index - n) ≡ index = omega (arith, past) in
    let moved : slice_index (drop n numbers) (index - n) ≡ slice_index numbers index =
    get_or-drop n numbers (index - n) 0 ∙ ap (slice_index numbers) at in
    elim (cases_lt (index - n) (length (drop n numbers))) [
      | inl inside ↦ sym moved ∙ eqb-true _ 0 (AllPass-from_list_all (λ b. eqb b 0) (drop n numbers) zeros (index - n) 0 inside)
      | inr outside ↦ sym moved ∙ get_or_past (drop n numbers) (index - n) 0 outside
    ]

is_there : {X : Type 0} (none : Bool) (x : X) → is_some (cond none None (Some x)) ≡ not none
is_there true x = refl
is_there false x = refl

-- an index has a block where its number isn't 0
pub there_by_number : (blocks : Blocks) (u : UsedInode) (k : ℕ) → are_zeros (drop (size_in_blocks u.inode.size) u.numbers) ≡ true
    → is_some (get_or (file_blocks blocks u) k None) ≡ not (eqb (slice_index u.numbers k) 0)
there_by_number blocks u k zeros =
    let s = size_in_blocks u.inode.size in
    let f : ℕ → Option (List ℕ) = λ index. file_block blocks (slice_index u.numbers index) in
    elim (cases_lt k s) [
      | inl below ↦
          let same : 0 + k ≡ k = omega arith in
          ap (λ (o : Option (List ℕ)). is_some o) (get_or-map-range_with_len f 0 s k k None below same)
          ∙ is_there (eqb (slice_index u.numbers k) 0) (take block_size (blocks (slice_index u.numbers k)))
      | inr past ↦
          ap (λ (o : Option (List ℕ)). is_some o) (get_or_past (file_blocks blocks u) k None (omega (arith, past, length-map-range_with_len f 0 s)))
          ∙ sym (ap (λ (n : ℕ). not (eqb n 0)) (past_zeros u.numbers s k zeros past))
    ]

pub no_more : (n k : ℕ) → ◌≡◌ {A = Option (List ℕ)} (get_or (replicate n None) k None) None
no_more n k = elim (cases_lt k n) [
  | inl below ↦ get_or-replicate n k None None below
  | inr past ↦ get_or_past (replicate n None) k None (omega (arith, past, length-replicate {A = Option (List ℕ)} n None))
]

pub length-at_length : (n : ℕ) (xs : List (Option (List ℕ))) → length (at_length n xs) ≡ n
length-at_length n xs = length-take-le n (xs ++ replicate n None) (omega (arith, length-append xs (replicate n None), length-replicate {A = Option (List ℕ)} n None))

-- holes after the last block
pub get_or-at_length : (n : ℕ) (xs : List (Option (List ℕ))) (k : ℕ) → k < n → get_or (at_length n xs) k None ≡ get_or xs k None
get_or-at_length n xs k below =
    get_or-take n (xs ++ replicate n None) k None below ∙ elim (cases_lt k (length xs)) [
      | inl within ↦ get_or_append_left xs (replicate n None) None k within
      | inr past ↦ get_or-append_right xs (replicate n None) (length xs) k None refl past ∙ no_more n (k - length xs) ∙ sym (get_or_past xs k None past)
    ]

numbered_bytes : (none : Bool) (blocks : Blocks) (number : ℕ)
    → cond none None (Some (take block_size (blocks number))) ≡ option_map (λ b. take block_size (blocks b)) (cond none None (Some number))
numbered_bytes true blocks number = refl
numbered_bytes false blocks number = refl

-- the bytes at an index lie in the block of its number
pub bytes_by_number : (blocks : Blocks) (u : UsedInode) (k : ℕ) → are_zeros (drop (size_in_blocks u.inode.size) u.numbers) ≡ true
    → block_at (file_of_inode blocks u) k ≡ option_map (λ b. take block_size (blocks b)) (numbered (slice_index u.numbers k))
bytes_by_number blocks u k zeros =
    let s = size_in_blocks u.inode.size in
    let f : ℕ → Option (List ℕ) = λ index. file_block blocks (slice_index u.numbers index) in
    elim (cases_lt k s) [
      | inl below ↦ ap option_flatten (entry_of_range f s k below) ∙ numbered_bytes (eqb (slice_index u.numbers k) 0) blocks (slice_index u.numbers k)
      | inr past ↦
          ap option_flatten (slice_get_past (file_blocks blocks u) k (omega (arith, past, length-map-range_with_len f 0 s)))
          ∙ sym (ap (λ (n : ℕ). option_map (λ b. take block_size (blocks b)) (numbered n)) (past_zeros u.numbers s k zeros past))
    ]
