-- The blocks that a file loses, by the numbers that were read of it.
use Rattle.std.proofs.Common.{◌≡◌, ◌<◌, ◌≤◌, ℕ, zero, suc, ◌+◌, ◌-◌, eqb, leb, Bool, true, false, not, cond, if◌then◌else◌, List, [], ◌∷◌, ◌++◌, length, map, take, drop, replicate, slice_index, Some, refl, sym, ap, ◌∙◌, arith}
use Rattle.std.specs.Prelude.{nat_le}
use Rattle.std.specs.List.{filter, range_with_len}
use Rattle.std.proofs.lemmas.Bool.{lt-leb}
use Rattle.std.proofs.Math.Seq.{drop-append-add}
use Rattle.std.proofs.lemmas.List.{ext_get_or, length-append, length-drop, length-take-le, take-append-drop, drop-drop, map-append, append-nil, get_or-take, get_or-drop}
use Rattle.std.proofs.lemmas.List.Elements.{filter-append}
use Rattle.std.proofs.lemmas.List.Sums.{sum_by-cons, sum_by-append}
use Rattle.std.proofs.lemmas.List.FromFn.{get_or-map-range_with_len, length-map-range_with_len}
use Rattle.lufs_base.specs.Fields.{are_zeros}
use Rattle.lufs_base.specs.declared.geometry.Geometry.{Geometry}
use Rattle.volume_model.specs.declared.inode.Dinode.{Dinode}
use Rattle.volume_model.specs.Format.{Blocks}
use Rattle.volume_model.specs.Sound.{NamedPointer, UsedInode, used_inode, reading_of, used_at}
use Rattle.volume_laws.proofs.Counting.{one_if}
use Rattle.change_laws.specs.Exchange.{claimed_blocks}
use Rattle.change_laws.specs.Plans.{blocks_past}
use Rattle.change_laws.proofs.ClaimedBlocks.{claims_one, blocks_claimed, no_zeros}
use Rattle.change_laws.proofs.NumberReads.{numbers_without_pointer}
use Rattle.change_laws.proofs.CutClaims.{zeros_claim_nothing}
use Rattle.meta_store.specs.declared.change.Freed.{Freed}
use Rattle.file_map.specs.Freed.{metadata_among}
use Rattle.file_map.specs.Cut.{lost_block, lost_from, lost}
use Rattle.file_map.proofs.MissingBlocks.{one_more}

one_lost : (none : Bool) (number : ℕ) (meta : Bool) → map (λ (f : Freed). f.block.0) (cond none [] (record { block = record { 0 = number }; meta = meta } ∷ [])) ≡ cond (not none) (number ∷ []) []
one_lost true number meta = refl
one_lost false number meta = refl

pointer_lost : (low : Bool) (number : ℕ) → map (λ (f : Freed). f.block.0) (cond low (lost_block true number) []) ≡ filter claims_one (cond low (number ∷ []) [])
pointer_lost true number = one_lost (eqb number 0) number true
pointer_lost false number = refl

numbers_lost : (h : ℕ → ℕ) (ks : List ℕ) → map (λ (f : Freed). f.block.0) (map (λ k. record { block = record { 0 = h k }; meta = false }) (filter (λ k. not (eqb (h k) 0)) ks)) ≡ filter claims_one (map h ks)
numbers_lost h [] = refl
numbers_lost h (k ∷ ks) =
    let rest = numbers_lost h ks in
    let more : List ℕ = filter (λ k. not (eqb (h k) 0)) ks in
    let step : (t : Bool) → map (λ (f : Freed). f.block.0) (map (λ k. record { block = record { 0 = h k }; meta = false }) (cond t (k ∷ more) more)) ≡ cond t (h k ∷ filter claims_one (map h ks)) (filter claims_one (map h ks)) = λ t.
    elim t as (λ t. map (λ (f : Freed). f.block.0) (map (λ k. record { block = record { 0 = h k }; meta = false }) (cond t (k ∷ more) more)) ≡ cond t (h k ∷ filter claims_one (map h ks)) (filter claims_one (map h ks))) [
      | true ↦ ap (λ (l : List ℕ). h k ∷ l) rest
      | false ↦ rest
    ] in
    step (not (eqb (h k) 0))

-- the numbers from one index to before another one
rows_alike : (xs us : List ℕ) (kept past : ℕ) → kept ≤ past → past ≤ length us → ((k : ℕ) → k < past → slice_index xs k ≡ slice_index us k)
    → map (λ k. slice_index xs k) (range_with_len kept (past - kept)) ≡ take (past - kept) (drop kept us)
rows_alike xs us kept past order most same =
    let n = past - kept in
    let front = length-map-range_with_len (λ k. slice_index xs k) kept n in
    let long : n ≤ length (drop kept us) = omega (arith, length-drop kept us, most, order) in
    ext_get_or 0 (map (λ k. slice_index xs k) (range_with_len kept n)) (take n (drop kept us)) (front ∙ sym (length-take-le n (drop kept us) long)) (λ j below.
    let inside : j < n = omega (arith, below, front) in
    get_or-map-range_with_len (λ k. slice_index xs k) kept n j (kept + j) 0 inside refl
    ∙ same (kept + j) (omega (arith, inside, order))
    ∙ sym (get_or-take n (drop kept us) j 0 inside ∙ get_or-drop kept us j 0))

-- those that aren't 0
numbers_past : (xs us : List ℕ) (kept past : ℕ) → kept ≤ past → past ≤ length us → ((k : ℕ) → k < past → slice_index xs k ≡ slice_index us k) → are_zeros (drop past us) ≡ true
    → filter claims_one (map (λ k. slice_index xs k) (range_with_len kept (past - kept))) ≡ filter claims_one (drop kept us)
numbers_past xs us kept past order most same zeros =
    let n = past - kept in
    let whole : kept + n ≡ past = omega (arith, order) in
    let rest : filter claims_one (drop n (drop kept us)) ≡ [] = ap (filter claims_one) (drop-drop n kept us ∙ ap (λ (m : ℕ). drop m us) whole) ∙ zeros_claim_nothing (drop past us) zeros in
    ap (filter claims_one) (rows_alike xs us kept past order most same)
    ∙ sym (append-nil (filter claims_one (take n (drop kept us))))
    ∙ ap (λ (l : List ℕ). filter claims_one (take n (drop kept us)) ++ l) (sym rest)
    ∙ sym (filter-append claims_one (take n (drop kept us)) (drop n (drop kept us)))
    ∙ ap (filter claims_one) (take-append-drop n (drop kept us))

-- The blocks that are to be freed are those past the size.
pub lost_past : (blocks : Blocks) (d : Dinode) (numbers : List ℕ) (kept past : ℕ) → kept ≤ past → past ≤ length (used_inode blocks d).numbers
    → ((k : ℕ) → k < past → slice_index numbers k ≡ slice_index (used_inode blocks d).numbers k) → are_zeros (drop past (used_inode blocks d).numbers) ≡ true
    → map (λ (f : Freed). f.block.0) (lost d numbers kept past) ≡ blocks_past (used_inode blocks d) kept
lost_past blocks d numbers kept past order most same zeros =
    let us = (used_inode blocks d).numbers in
    let first : List ℕ = cond (nat_le kept 12) (slice_index d.indirect 0 ∷ []) [] in
    map-append (λ (f : Freed). f.block.0) (cond (nat_le kept 12) (lost_block true (slice_index d.indirect 0)) []) (lost_from numbers kept past)
    ∙ (λ t. pointer_lost (nat_le kept 12) (slice_index d.indirect 0) t
    ++ (numbers_lost (λ k. slice_index numbers k) (range_with_len kept (past - kept)) ∙ numbers_past numbers us kept past order most same zeros) t)
    ∙ sym (filter-append claims_one first (drop kept us))

-- an inode has at least the blocks past an index
pub few_past : (i : ℕ) (u : UsedInode) (s : ℕ) → length (blocks_past u s) ≤ length (claimed_blocks i (Some u))
few_past i u s =
    let pointers : List ℕ = map (λ p. p.block) u.pointers in
    let first : List ℕ = cond (nat_le s 12) pointers [] in
    let front : List ℕ = take s u.numbers in
    let rest : List ℕ = drop s u.numbers in
    let all : length (claimed_blocks i (Some u)) ≡ length (filter claims_one pointers) + length (filter claims_one u.numbers) =
    ap length (blocks_claimed i u ∙ filter-append claims_one pointers u.numbers) ∙ length-append (filter claims_one pointers) (filter claims_one u.numbers) in
    let split : length (filter claims_one u.numbers) ≡ length (filter claims_one front) + length (filter claims_one rest) =
    ap (λ (l : List ℕ). length (filter claims_one l)) (sym (take-append-drop s u.numbers)) ∙ ap length (filter-append claims_one front rest) ∙ length-append (filter claims_one front) (filter claims_one rest) in
    let its : length (blocks_past u s) ≡ length (filter claims_one first) + length (filter claims_one rest) =
    ap length (filter-append claims_one first rest) ∙ length-append (filter claims_one first) (filter claims_one rest) in
    let less : length (filter claims_one first) ≤ length (filter claims_one pointers) = by_test (nat_le s 12) pointers in
    omega (arith, all, split, its, less)
  where
    by_test : (t : Bool) (l : List ℕ) → length (filter claims_one (cond t l [])) ≤ length (filter claims_one l)
    by_test true l = omega arith
    by_test false l = omega arith

zeros_dropped : (m n : ℕ) → filter claims_one (drop m (replicate n 0)) ≡ []
zeros_dropped zero n = no_zeros n
zeros_dropped (suc m) zero = refl
zeros_dropped (suc m) (suc n) = zeros_dropped m n

-- an inode without a pointer block has no blocks past the direct ones
pub none_past : (g : Geometry) (blocks : Blocks) (i : ℕ) (u : UsedInode) (s : ℕ) → used_at (reading_of g blocks) i ≡ Some u → eqb (slice_index u.inode.indirect 0) 0 ≡ true
    → length u.inode.direct ≡ 12 → 12 < s → blocks_past u s ≡ []
none_past g blocks i u s used none twelve high =
    let m = s - 12 in
    let at : s ≡ length u.inode.direct + m = omega (arith, high, twelve) in
    let zeros : List ℕ = replicate 1024 0 ++ [] in
    ap (λ (t : Bool). filter claims_one (cond t (map (λ p. p.block) u.pointers) [] ++ drop s u.numbers)) (lt-leb s 12 high)
    ∙ ap (λ (l : List ℕ). filter claims_one (drop s l)) (numbers_without_pointer g blocks i u used none)
    ∙ ap (λ (n : ℕ). filter claims_one (drop n (u.inode.direct ++ zeros))) at
    ∙ ap (filter claims_one) (drop-append-add u.inode.direct zeros m ∙ ap (drop m) (append-nil (replicate 1024 0)))
    ∙ zeros_dropped m 1024

one_at : (none : Bool) (f : ℕ → Freed) (k : ℕ) → map f (cond (not none) (k ∷ []) []) ≡ cond none [] (f k ∷ [])
one_at true f k = refl
one_at false f k = refl

-- one index more
pub one_more_lost : (numbers : List ℕ) (kept index : ℕ) → kept ≤ index → lost_from numbers kept (index + 1) ≡ lost_from numbers kept index ++ lost_block false (slice_index numbers index)
one_more_lost numbers kept index order =
    let test : ℕ → Bool = λ k. not (eqb (slice_index numbers k) 0) in
    let f : ℕ → Freed = λ k. record { block = record { 0 = slice_index numbers k }; meta = false } in
    let so_far : List ℕ = filter test (range_with_len kept (index - kept)) in
    ap (map f) (one_more test kept index order) ∙ map-append f so_far (cond (test index) (index ∷ []) [])
    ∙ ap (λ (l : List Freed). map f so_far ++ l) (one_at (eqb (slice_index numbers index) 0) f index)

no_metadata : (h : ℕ → ℕ) (ks : List ℕ) → metadata_among (map (λ k. record { block = record { 0 = h k }; meta = false }) ks) ≡ 0
no_metadata h [] = refl
no_metadata h (k ∷ ks) =
    let f : ℕ → Freed = λ k. record { block = record { 0 = h k }; meta = false } in
    let step = sum_by-cons (λ (x : Freed). one_if x.meta) (f k) (map f ks) in
    omega (arith, step, no_metadata h ks)

-- at most the pointer block held metadata
pub few_metadata : (d : Dinode) (numbers : List ℕ) (kept past : ℕ) → metadata_among (lost d numbers kept past) ≤ 1
few_metadata d numbers kept past =
    let first : List Freed = cond (nat_le kept 12) (lost_block true (slice_index d.indirect 0)) [] in
    let both = sum_by-append (λ (x : Freed). one_if x.meta) first (lost_from numbers kept past) in
    let rest = no_metadata (λ k. slice_index numbers k) (filter (λ k. not (eqb (slice_index numbers k) 0)) (range_with_len kept (past - kept))) in
    omega (arith, both, rest, if_low (nat_le kept 12) (eqb (slice_index d.indirect 0) 0) (record { block = record { 0 = slice_index d.indirect 0 }; meta = true }))
  where
    at_most : (t : Bool) → one_if t ≤ 1
    at_most true = omega arith
    at_most false = omega arith

    if_low : (low none : Bool) (f : Freed) → metadata_among (cond low (cond none [] (f ∷ [])) []) ≤ 1
    if_low true true f = omega arith
    if_low true false f = let one = at_most (f.meta) in let step = sum_by-cons (λ (x : Freed). one_if x.meta) f [] in omega (arith, one, step)
    if_low false none f = omega arith
