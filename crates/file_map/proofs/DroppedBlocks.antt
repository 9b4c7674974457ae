-- The blocks of an inode, as they are read by its record and its numbers, are those that it claims.
use Rattle.std.proofs.Common.{◌≡◌, ◌<◌, ◌≤◌, inl, inr, ℕ, zero, suc, ◌+◌, ◌*◌, ◌/◌, eqb, Bool, true, false, not, ◌&&◌, ◌||◌, cond, List, [], ◌∷◌, ◌++◌, length, map, slice_index, Option, Some, None, IfSome, refl, sym, ap, ◌∙◌, subst, arith, append_assoc}
use Rattle.std.specs.Prelude.{All, ◌==◌, nat_lt, nat_le, if◌then◌else◌, slice_index_or}
use Rattle.std.specs.List.{filter, flat_map, range_with_len, count_by}
use Rattle.std.proofs.lemmas.Bool.{cases_Bool, and_parts, eq-eqb, leb-true, cond-true, cond-false, not_from_true, not_from_false}
use Rattle.std.proofs.lemmas.List.{get_or_past, map-append}
use Rattle.std.proofs.lemmas.List.Elements.{All-nil, All-cons, All-append, filter-append}
use Rattle.std.proofs.lemmas.List.Sums.{sum_by-append, sum_by-cons}
use Rattle.lufs_base.specs.Layout.{blocks_of}
use Rattle.lufs_base.specs.declared.geometry.Geometry.{Geometry}
use Rattle.volume_model.specs.declared.hand.Hand.{Hand}
use Rattle.volume_model.specs.declared.inode.Dinode.{Dinode}
use Rattle.volume_model.specs.Format.{Image, Blocks, block, is_file, is_directory, is_link}
use Rattle.volume_model.specs.Sound.{NamedPointer, Single, UsedInode, Reading, reading_of, used_at, used_inode, numbers_of, index_claim, pointer_claim, is_claimed, metadata_length, size_in_blocks, has_right_numbers, IsStored}
use Rattle.volume_laws.proofs.Counting.{one_if}
use Rattle.volume_laws.proofs.ClaimFacts.{index_claimed, claims_its_block}
use Rattle.volume_laws.proofs.FieldFacts.{HasRightFields, fields_of_numbers}
use Rattle.volume_laws.proofs.Members.{All_flat_map}
use Rattle.volume_laws.proofs.NodeClaims.{sized}
use Rattle.volume_laws.proofs.NumberChange.{its_pointer, numbers_of_used}
use Rattle.change_laws.specs.Exchange.{claimed_blocks}
use Rattle.change_laws.proofs.ClaimedBlocks.{claims_one, blocks_claimed}
use Rattle.change_laws.proofs.Extended.{zero_at}
use Rattle.meta_store.specs.declared.change.Freed.{Freed}
use Rattle.draft_laws.proofs.FreedInode.{pointer_metadata, index_metadata}
use Rattle.file_map.specs.Freed.{metadata_among, WasClaimed}
use Rattle.file_map.specs.Dropped.{most_indexes, freed_block, freed_indexes, freed_of}
use Rattle.file_map.proofs.GroupShares.{numbers}

-- the number of one block
number_of_block : (meta : Bool) (n : ℕ) → numbers (freed_block meta n) ≡ filter claims_one (n ∷ [])
number_of_block meta n = elim (eqb n 0) as (λ t. numbers (if t then [] else record { block = record { 0 = n }; meta = meta } ∷ []) ≡ cond (not t) (n ∷ []) []) [
  | true ↦ refl
  | false ↦ refl
]

numbers_of_list : (meta : Bool) (f : ℕ → ℕ) (indexes : List ℕ) → numbers (flat_map (λ k. freed_block meta (f k)) indexes) ≡ filter claims_one (map f indexes)
numbers_of_list meta f [] = refl
numbers_of_list meta f (k ∷ indexes) =
    map-append (λ (x : Freed). x.block.0) (freed_block meta (f k)) (flat_map (λ k. freed_block meta (f k)) indexes)
    ∙ ap (λ (l : List ℕ). l ++ numbers (flat_map (λ k. freed_block meta (f k)) indexes)) (number_of_block meta (f k))
    ∙ ap (λ (l : List ℕ). filter claims_one (f k ∷ []) ++ l) (numbers_of_list meta f indexes)
    ∙ sym (filter-append claims_one (f k ∷ []) (map f indexes))

-- numbers that are all 0 claim nothing
zeros_only : (xs : List ℕ) → ((k : ℕ) → slice_index xs k ≡ 0) → filter claims_one xs ≡ []
zeros_only [] none = refl
zeros_only (x ∷ xs) none =
    let here : claims_one x ≡ false = not_from_true (eqb x 0) (eq-eqb x 0 (none 0)) in
    ap (λ (t : Bool). cond t (x ∷ filter claims_one xs) (filter claims_one xs)) here ∙ zeros_only xs (λ k. none (suc k))

-- the numbers at indexes past which all are 0
by_indexes : (xs : List ℕ) (f : ℕ → ℕ) (at count : ℕ) → ((k : ℕ) → f (at + k) ≡ slice_index xs k) → ((k : ℕ) → count ≤ k → slice_index xs k ≡ 0)
    → filter claims_one (map f (range_with_len at count)) ≡ filter claims_one xs
by_indexes xs f at zero is none = sym (zeros_only xs (λ k. none k (omega arith)))
by_indexes [] f at (suc n) is none =
    let start : at + 0 ≡ at = omega arith in
    let first : f at ≡ 0 = ap f (sym start) ∙ is 0 in
    let rest = map f (range_with_len (at + 1) n) in
    let here : claims_one (f at) ≡ false = not_from_true (eqb (f at) 0) (eq-eqb (f at) 0 first) in
    ap (λ (t : Bool). cond t (f at ∷ filter claims_one rest) (filter claims_one rest)) here
    ∙ by_indexes [] f (at + 1) n (λ k. ap f (let same : (at + 1) + k ≡ at + suc k = omega arith in same) ∙ is (suc k)) (λ k past. refl)
by_indexes (x ∷ xs) f at (suc n) is none =
    let start : at + 0 ≡ at = omega arith in
    let first : f at ≡ x = ap f (sym start) ∙ is 0 in
    let rest = map f (range_with_len (at + 1) n) in
    let more = by_indexes xs f (at + 1) n (λ k. ap f (let same : (at + 1) + k ≡ at + suc k = omega arith in same) ∙ is (suc k)) (λ k past. none (suc k) (omega (arith, past))) in
    ap (λ (y : ℕ). cond (claims_one y) (y ∷ filter claims_one rest) (filter claims_one rest)) first
    ∙ ap (λ (l : List ℕ). cond (claims_one x) (x ∷ l) l) more

-- numbers that are the same below the indexes
same_flat : (meta : Bool) (f h : ℕ → ℕ) (at count : ℕ) → ((k : ℕ) → at ≤ k → k < at + count → f k ≡ h k)
    → flat_map (λ k. freed_block meta (f k)) (range_with_len at count) ≡ flat_map (λ k. freed_block meta (h k)) (range_with_len at count)
same_flat meta f h at zero same = refl
same_flat meta f h at (suc n) same =
    let first = same at (omega arith) (omega arith) in
    let rest = same_flat meta f h (at + 1) n (λ k low high. same k (omega (arith, low)) (omega (arith, high))) in
    λ t. freed_block meta (first t) ++ rest t

freed_same : (d : Dinode) (xs ys : List ℕ) → ((k : ℕ) → k < most_indexes d → slice_index xs k ≡ slice_index ys k) → freed_of d xs ≡ freed_of d ys
freed_same d xs ys same =
    ap (λ (l : List Freed). freed_block true (slice_index d.indirect 0) ++ l)
    (same_flat (not (is_file d.mode)) (slice_index xs) (slice_index ys) 0 (most_indexes d) (λ k low high. same k (omega (arith, high))))

-- few of them hold metadata
one_counted : (meta : Bool) (n : ℕ) → metadata_among (freed_block meta n) ≤ cond meta 1 0
one_counted meta n = elim (eqb n 0) as (λ t. metadata_among (if t then [] else record { block = record { 0 = n }; meta = meta } ∷ []) ≤ cond meta 1 0) [
  | true ↦ omega arith
  | false ↦ omega (arith, sum_by-cons (λ (f : Freed). one_if f.meta) (record { block = record { 0 = n }; meta = meta }) [])
]

counted_in : (meta : Bool) (f : ℕ → ℕ) (at n : ℕ) → metadata_among (flat_map (λ k. freed_block meta (f k)) (range_with_len at n)) ≤ cond meta n 0
counted_in true f at zero = omega arith
counted_in false f at zero = omega arith
counted_in true f at (suc n) =
    let rest = flat_map (λ k. freed_block true (f k)) (range_with_len (at + 1) n) in
    omega (arith, sum_by-append (λ (x : Freed). one_if x.meta) (freed_block true (f at)) rest, one_counted true (f at), counted_in true f (at + 1) n)
counted_in false f at (suc n) =
    let rest = flat_map (λ k. freed_block false (f k)) (range_with_len (at + 1) n) in
    omega (arith, sum_by-append (λ (x : Freed). one_if x.meta) (freed_block false (f at)) rest, one_counted false (f at), counted_in false f (at + 1) n)

few_indexes : (file : Bool) (xs : List ℕ) → metadata_among (freed_indexes (not file) xs (if file then 1036 else 256)) ≤ 256
few_indexes true xs = omega (arith, counted_in false (slice_index xs) 0 1036)
few_indexes false xs = counted_in true (slice_index xs) 0 256

pub few_freed : (d : Dinode) (xs : List ℕ) → metadata_among (freed_of d xs) ≤ 257
few_freed d xs =
    let p = slice_index d.indirect 0 in
    omega (
      arith,
      sum_by-append (λ (x : Freed). one_if x.meta) (freed_block true p) (freed_indexes (not (is_file d.mode)) xs (most_indexes d)),
      one_counted true p,
      few_indexes (is_file d.mode) xs,
    )

-- the block of the next index
append_none : (xs : List Freed) → xs ++ [] ≡ xs
append_none [] = refl
append_none (x ∷ xs) = ap (λ (l : List Freed). x ∷ l) (append_none xs)

flat_more : (F : ℕ → List Freed) (at n j : ℕ) → at + n ≡ j → flat_map F (range_with_len at (n + 1)) ≡ flat_map F (range_with_len at n) ++ F j
flat_more F at zero j is =
    let size : zero + 1 ≡ 1 = omega arith in
    let start : at ≡ j = omega (arith, is) in
    ap (λ (m : ℕ). flat_map F (range_with_len at m)) size ∙ append_none (F at) ∙ ap F start
flat_more F at (suc n) j is =
    let size : suc n + 1 ≡ suc (n + 1) = omega arith in
    let next : (at + 1) + n ≡ j = omega (arith, is) in
    ap (λ (m : ℕ). flat_map F (range_with_len at m)) size
    ∙ ap (λ (l : List Freed). F at ++ l) (flat_more F (at + 1) n j next)
    ∙ sym (append_assoc (F at) (flat_map F (range_with_len (at + 1) n)) (F j))

indexes_more : (meta : Bool) (numbers : List ℕ) (k number : ℕ) (first xs ys : List Freed) → number ≡ slice_index numbers k → xs ≡ first ++ freed_indexes meta numbers k
    → ys ≡ xs ++ freed_block meta number → ys ≡ first ++ freed_indexes meta numbers (k + 1)
indexes_more meta numbers k number first xs ys at before is =
    is ∙ ap (λ (l : List Freed). l ++ freed_block meta number) before
    ∙ ap (λ (n : ℕ). (first ++ freed_indexes meta numbers k) ++ freed_block meta n) at
    ∙ append_assoc first (freed_indexes meta numbers k) (freed_block meta (slice_index numbers k))
    ∙ ap (λ (l : List Freed). first ++ l) (sym (flat_more (λ j. freed_block meta (slice_index numbers j)) 0 k k (omega arith)))

-- no number past the indexes
module _ (g : Geometry) (blocks : Blocks) (i : ℕ) (d : Dinode) where
  abbrev u : UsedInode
  u = used_inode blocks d

  size_of_other : has_right_numbers g i u ≡ true → is_file d.mode ≡ false → size_in_blocks d.size ≤ 256
  size_of_other right other = elim (sized g d (fields_of_numbers g i u right).size other) [
    | inl directory ↦
        let most : d.size ≤ 4096 * 256 = leb-true d.size (4096 * 256) (and_parts _ (nat_le d.size (4096 * 256)) directory).1 in
        omega (arith, most)
    | inr link ↦
        let most : d.size ≤ 1024 = leb-true d.size 1024 (and_parts _ (nat_le d.size 1024) link).1 in
        omega (arith, most)
  ]

  none_past : used_at (reading_of g blocks) i ≡ Some u → has_right_numbers g i u ≡ true → (k : ℕ) → most_indexes d ≤ k → slice_index u.numbers k ≡ 0
  none_past used right k past = elim (cases_Bool (is_file d.mode)) [
    | inl file ↦
        let most : most_indexes d ≡ 1036 = cond-true (is_file d.mode) 1036 256 file in
        get_or_past u.numbers k 0 (omega (arith, past, most, numbers_of_used g blocks i u used))
    | inr other ↦
        let most : most_indexes d ≡ 256 = cond-false (is_file d.mode) 1036 256 other in
        zero_at u.numbers (size_in_blocks d.size) k (fields_of_numbers g i u right).none_past (omega (arith, past, most, size_of_other right other))
  ]

  -- they are the blocks that the inode claims
  pub freed_is : used_at (reading_of g blocks) i ≡ Some u → has_right_numbers g i u ≡ true → numbers (freed_of d u.numbers) ≡ claimed_blocks i (Some u)
  freed_is used right =
      let p = slice_index d.indirect 0 in
      let meta = not (is_file d.mode) in
      let indexes = freed_indexes meta u.numbers (most_indexes d) in
      map-append (λ (x : Freed). x.block.0) (freed_block true p) indexes
      ∙ ap (λ (l : List ℕ). l ++ numbers indexes) (number_of_block true p)
      ∙ ap (λ (l : List ℕ). filter claims_one (p ∷ []) ++ l)
      (numbers_of_list meta (slice_index u.numbers) (range_with_len 0 (most_indexes d))
      ∙ by_indexes u.numbers (slice_index u.numbers) 0 (most_indexes d) (λ k. ap (slice_index u.numbers) (let same : 0 + k ≡ k = omega arith in same)) (none_past used right))
      ∙ sym (filter-append claims_one (p ∷ []) u.numbers)
      ∙ sym (blocks_claimed i u)

-- and with each comes whether it held metadata, where the inode was the same before
module _ (g : Geometry) (base : Image) (start : List Hand) (i : ℕ) (u : UsedInode) (stored : IsStored g (reading_of g (block base)) start) (used : used_at (reading_of g (block base)) i ≡ Some u) where
  abbrev before : Reading
  before = reading_of g (block base)

  block_was : (meta : Bool) (n : ℕ) → (eqb n 0 ≡ false → is_claimed before n ≡ true) → (eqb n 0 ≡ false → nat_lt 0 (metadata_length g before n) ≡ meta) → All (WasClaimed g base) (freed_block meta n)
  block_was meta n claimed held = elim (cases_Bool (eqb n 0)) [
    | inl none ↦ subst (λ (t : Bool). All (WasClaimed g base) (if t then [] else record { block = record { 0 = n }; meta = meta } ∷ [])) (sym none) (All-nil (WasClaimed g base))
    | inr some ↦
        let f : Freed = record { block = record { 0 = n }; meta = meta } in
        subst (λ (t : Bool). All (WasClaimed g base) (if t then [] else f ∷ [])) (sym some)
        (All-cons (WasClaimed g base) f [] (record { claimed = claimed some; metadata = sym (held some) }) (All-nil (WasClaimed g base)))
  ]

  at_index : (k : ℕ) → All (WasClaimed g base) (freed_block (not (is_file u.inode.mode)) (slice_index u.numbers k))
  at_index k =
      block_was (not (is_file u.inode.mode)) (slice_index u.numbers k) (λ some. claims_its_block before (index_claim i u k) (index_claimed before i u k used some))
      (index_metadata g (block base) start i u stored used k)

  pub all_were : All (WasClaimed g base) (freed_of u.inode u.numbers)
  all_were =
      let p = slice_index u.inode.indirect 0 in
      let meta = not (is_file u.inode.mode) in
      let indexes = range_with_len 0 (most_indexes u.inode) in
      All-append (WasClaimed g base) (freed_block true p) (freed_indexes meta u.numbers (most_indexes u.inode))
      (block_was true p
      (λ some. claims_its_block before (pointer_claim i (record { name = Single; block = p })) (its_pointer g (block base) i u used some))
      (pointer_metadata g (block base) start i u stored used))
      (All_flat_map (WasClaimed g base) (λ k. freed_block meta (slice_index u.numbers k)) indexes (λ j d inside. at_index (slice_index_or indexes j d)))

-- the same by what the code has
pub indexes_by_code : (file test : Bool) (numbers : List ℕ) (k number : ℕ) (first xs ys : List Freed) → test ≡ file → number ≡ slice_index numbers k
    → xs ≡ first ++ freed_indexes (not file) numbers k → ys ≡ xs ++ freed_block (not test) number → ys ≡ first ++ freed_indexes (not file) numbers (k + 1)
indexes_by_code file test numbers k number first xs ys same at before is =
    indexes_more (not file) numbers k number first xs ys at before (is ∙ ap (λ (t : Bool). xs ++ freed_block (not t) number) same)

pub blocks_read : (content : Option Image) (g : Geometry) (d : Dinode) (read : List ℕ) (items : List Freed) (count : ℕ) → count ≡ most_indexes d → items ≡ freed_of d read
    → IfSome content (λ image. slice_index d.indirect 0 < blocks_of g → (k : ℕ) → k < count → slice_index read k ≡ slice_index (numbers_of (block image) d) k)
    → IfSome content (λ image. slice_index d.indirect 0 < blocks_of g → items ≡ freed_of d (numbers_of (block image) d))
blocks_read None g d read items count most is numbers_are = tt
blocks_read (Some image) g d read items count most is numbers_are = λ inside.
    is ∙ freed_same d read (numbers_of (block image) d) (λ k below. numbers_are inside k (omega (arith, below, most)))
