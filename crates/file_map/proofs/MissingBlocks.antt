-- Which blocks a file lacks, by the numbers of its inode.
use Rattle.std.proofs.Common.{◌≡◌, ◌<◌, ◌≤◌, inl, inr, ℕ, zero, suc, ◌+◌, ◌-◌, ◌*◌, ◌/◌, eqb, Bool, true, false, not, ◌&&◌, cond, List, [], ◌∷◌, ◌++◌, length, drop, get_or, slice_index, max, Option, Some, None, is_some, refl, sym, ap, ◌∙◌, arith}
use Rattle.std.specs.Prelude.{nat_lt}
use Rattle.std.specs.List.{filter, range_with_len}
use Rattle.std.proofs.lemmas.Bool.{cases_Bool, lt-ltb, le-ltb, and_right}
use Rattle.std.proofs.lemmas.List.Elements.{filter-append}
use Rattle.lufs_base.specs.Fields.{are_zeros}
use Rattle.volume_model.specs.Format.{Blocks}
use Rattle.volume_model.specs.Sound.{UsedInode, size_in_blocks, file_blocks}
use Rattle.history_model.specs.FileBytes.{reaches, at_length, missing_from, missing_indexes}
use Rattle.file_map.specs.Needed.{file_of_inode}
use Rattle.file_map.proofs.FileBlocks.{there_by_number, length-at_length, get_or-at_length}

twice_not : (b : Bool) → not (not b) ≡ b
twice_not true = refl
twice_not false = refl

-- where each block is there just where its number isn't 0
by_numbers : (offset count : ℕ) (f : ℕ → ℕ) (at : ℕ) (blocks : List (Option (List ℕ))) → ((k : ℕ) → k < length blocks → is_some (get_or blocks k None) ≡ not (eqb (f (at + k)) 0))
    → missing_from offset count at blocks ≡ filter (λ k. reaches offset count k && eqb (f k) 0) (range_with_len at (length blocks))
by_numbers offset count f at [] each = refl
by_numbers offset count f at (b ∷ blocks) each =
    let here : at + 0 ≡ at = omega arith in
    let first : is_some b ≡ not (eqb (f at) 0) = each 0 (omega arith) ∙ ap (λ (k : ℕ). not (eqb (f k) 0)) here in
    let test : reaches offset count at && not (is_some b) ≡ reaches offset count at && eqb (f at) 0 =
    ap (λ (t : Bool). reaches offset count at && not t) first ∙ ap (λ (t : Bool). reaches offset count at && t) (twice_not (eqb (f at) 0)) in
    let rest = by_numbers offset count f (at + 1) blocks (λ k below.
    let next : at + suc k ≡ (at + 1) + k = omega arith in
    each (suc k) (omega (arith, below)) ∙ ap (λ (j : ℕ). not (eqb (f j) 0)) next) in
    λ t. cond (test t) (at ∷ rest t) (rest t)

-- tests that are the same on a range
pub same_on : (p q : ℕ → Bool) (at n : ℕ) → ((k : ℕ) → at ≤ k → k < at + n → p k ≡ q k) → filter p (range_with_len at n) ≡ filter q (range_with_len at n)
same_on p q at zero same = refl
same_on p q at (suc n) same =
    let first = same at (omega arith) (omega arith) in
    let rest = same_on p q (at + 1) n (λ k low high. same k (omega (arith, low)) (omega (arith, high))) in
    λ t. cond (first t) (at ∷ rest t) (rest t)

none_on : (p : ℕ → Bool) (at n : ℕ) → ((k : ℕ) → at ≤ k → k < at + n → p k ≡ false) → filter p (range_with_len at n) ≡ []
none_on p at zero none = refl
none_on p at (suc n) none =
    let rest = none_on p (at + 1) n (λ k low high. none k (omega (arith, low)) (omega (arith, high))) in
    ap (λ (b : Bool). cond b (at ∷ filter p (range_with_len (at + 1) n)) (filter p (range_with_len (at + 1) n))) (none at (omega arith) (omega arith)) ∙ rest

range_split : (a m n : ℕ) → range_with_len a (m + n) ≡ range_with_len a m ++ range_with_len (a + m) n
range_split a zero n =
    let none : zero + n ≡ n = omega arith in
    let start : a ≡ a + zero = omega arith in
    ap (range_with_len a) none ∙ ap (λ (b : ℕ). range_with_len b n) start
range_split a (suc m) n =
    let size : suc m + n ≡ suc (m + n) = omega arith in
    let start : (a + 1) + m ≡ a + suc m = omega arith in
    ap (range_with_len a) size ∙ ap (λ (l : List ℕ). a ∷ l) (range_split (a + 1) m n ∙ ap (λ (b : ℕ). range_with_len (a + 1) m ++ range_with_len b n) start)

-- a range that is one longer
pub one_more : (p : ℕ → Bool) (first index : ℕ) → first ≤ index
    → filter p (range_with_len first ((index + 1) - first)) ≡ filter p (range_with_len first (index - first)) ++ cond (p index) (index ∷ []) []
one_more p first index order =
    let size : (index + 1) - first ≡ (index - first) + 1 = omega (arith, order) in
    let next : first + (index - first) ≡ index = omega (arith, order) in
    ap (λ (n : ℕ). filter p (range_with_len first n)) size
    ∙ ap (filter p) (range_split first (index - first) 1)
    ∙ filter-append p (range_with_len first (index - first)) (range_with_len (first + (index - first)) 1)
    ∙ ap (λ (k : ℕ). filter p (range_with_len first (index - first)) ++ cond (p k) (k ∷ []) []) next

nothing_after : (xs : List ℕ) → xs ++ [] ≡ xs
nothing_after [] = refl
nothing_after (x ∷ xs) = ap (λ (l : List ℕ). x ∷ l) (nothing_after xs)

-- a test that passes only within a part of a range
part_of : (r q : ℕ → Bool) (first past total : ℕ) → first ≤ past → past ≤ total → ((k : ℕ) → k < first → r k ≡ false) → ((k : ℕ) → first ≤ k → k < past → r k ≡ true)
    → ((k : ℕ) → past ≤ k → r k ≡ false)
    → filter (λ k. r k && q k) (range_with_len 0 total) ≡ filter q (range_with_len first (past - first))
part_of r q first past total order most below within above =
    let p : ℕ → Bool = λ k. r k && q k in
    let parts : total ≡ first + ((past - first) + (total - past)) = omega (arith, order, most) in
    let start : 0 + first ≡ first = omega arith in
    let next : first + (past - first) ≡ past = omega (arith, order) in
    let split : range_with_len 0 total ≡ range_with_len 0 first ++ (range_with_len first (past - first) ++ range_with_len past (total - past)) =
    ap (range_with_len 0) parts ∙ range_split 0 first ((past - first) + (total - past))
    ∙ ap (λ (b : ℕ). range_with_len 0 first ++ range_with_len b ((past - first) + (total - past))) start
    ∙ ap (λ (l : List ℕ). range_with_len 0 first ++ l) (range_split first (past - first) (total - past)
    ∙ ap (λ (b : ℕ). range_with_len first (past - first) ++ range_with_len b (total - past)) next) in
    let no : (k : ℕ) → r k ≡ false → p k ≡ false = λ k is. ap (λ (b : Bool). b && q k) is in
    let front = none_on p 0 first (λ k low high. no k (below k (omega (arith, high)))) in
    let back = none_on p past (total - past) (λ k low high. no k (above k low)) in
    let mid = same_on p q first (past - first) (λ k low high. ap (λ (b : Bool). b && q k) (within k low (omega (arith, high, next)))) in
    ap (filter p) split
    ∙ filter-append p (range_with_len 0 first) (range_with_len first (past - first) ++ range_with_len past (total - past))
    ∙ ap (λ (l : List ℕ). l ++ filter p (range_with_len first (past - first) ++ range_with_len past (total - past))) front
    ∙ filter-append p (range_with_len first (past - first)) (range_with_len past (total - past))
    ∙ ap (λ (l : List ℕ). filter p (range_with_len first (past - first)) ++ l) back
    ∙ nothing_after (filter p (range_with_len first (past - first)))
    ∙ mid

-- The indexes at which a file lacks blocks are those of the numbers that are 0, from the first to the last that is reached.
pub missing_by_numbers : (blocks : Blocks) (u : UsedInode) (offset count : ℕ) → are_zeros (drop (size_in_blocks u.inode.size) u.numbers) ≡ true
    → missing_indexes (file_of_inode blocks u) offset count
    ≡ filter (λ k. eqb (slice_index u.numbers k) 0) (range_with_len (offset / 4096) (size_in_blocks (offset + count) - offset / 4096))
missing_by_numbers blocks u offset count zeros =
    let xs = file_blocks blocks u in
    let n = size_in_blocks (max u.inode.size (offset + count)) in
    let f : ℕ → ℕ = λ k. slice_index u.numbers k in
    let all : length (at_length n xs) ≡ n = length-at_length n xs in
    let each : (k : ℕ) → k < length (at_length n xs) → is_some (get_or (at_length n xs) k None) ≡ not (eqb (f (0 + k)) 0) = λ k below.
    let same : k ≡ 0 + k = omega arith in
    ap (λ (o : Option (List ℕ)). is_some o) (get_or-at_length n xs k (omega (arith, below, all))) ∙ there_by_number blocks u k zeros ∙ ap (λ (j : ℕ). not (eqb (f j) 0)) same in
    let first = offset / 4096 in
    let past = size_in_blocks (offset + count) in
    by_numbers offset count f 0 (at_length n xs) each
    ∙ ap (λ (m : ℕ). filter (λ k. reaches offset count k && eqb (f k) 0) (range_with_len 0 m)) all
    ∙ part_of (reaches offset count) (λ k. eqb (f k) 0) first past n (omega arith) (omega arith)
    (λ k below. ap (λ (b : Bool). b && nat_lt (4096 * k) (offset + count)) (le-ltb offset (4096 * (k + 1)) (omega (arith, below))))
    (λ k low high.
    ap (λ (b : Bool). b && nat_lt (4096 * k) (offset + count)) (lt-ltb offset (4096 * (k + 1)) (omega (arith, low)))
    ∙ lt-ltb (4096 * k) (offset + count) (omega (arith, high)))
    (λ k above. and_right (nat_lt offset (4096 * (k + 1))) (nat_lt (4096 * k) (offset + count)) (le-ltb (4096 * k) (offset + count) (omega (arith, above))))
