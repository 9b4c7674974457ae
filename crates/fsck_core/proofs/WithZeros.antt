-- Numbers with zeros after them say of an inode what they say alone.
use Rattle.std.proofs.Common.{◌≡◌, ℕ, zero, suc, ◌-◌, ◌*◌, ◌/◌, ◌%◌, nat_le, nat_lt, Bool, true, false, not, ◌&&◌, ◌||◌, ◌==◌, cond, List, [], ◌∷◌, ◌++◌, length, map, take, drop, replicate, slice_index, Option, Some, None, IfSome, inl, inr, refl, sym, ap, ◌∙◌, arith}
use Rattle.std.proofs.Math.Dec.{leb-suc-suc}
use Rattle.std.proofs.lemmas.Bool.{cases_lt, le-leb, lt-leb, eqb-true, and_parts}
use Rattle.std.proofs.lemmas.List.{append-nil, get_or-append_right, get_or-replicate, get_or_append_left, get_or_past, length-replicate, drop-replicate}
use Rattle.std.proofs.lemmas.List.Folds.{list_all-append}
use Rattle.std.specs.List.{list_all}
use Rattle.lufs_base.specs.Fields.{are_zeros}
use Rattle.lufs_base.specs.declared.geometry.Geometry.{Geometry}
use Rattle.volume_model.specs.declared.inode.Dinode.{Dinode}
use Rattle.volume_model.specs.declared.directory.Slot.{Slot}
use Rattle.volume_model.specs.Format.{Image, Blocks, block, chunk_of, is_body, is_file}
use Rattle.volume_model.specs.Sound.{block_numbered, chunk_at, claims_in, numbers_of, pointers_at, size_in_blocks, has_right_links, has_right_size, has_none_past, has_no_hole, has_right_fields}
use Rattle.fsck_core.specs.Claimed.{used_with, blocks_claimed, nonzero, with_zeros}
use Rattle.fsck_core.proofs.FieldRules.{bodies-claims_in, length-claims_in}
use Rattle.fsck_core.proofs.Nonzero.{nonzero-append, nonzero-zeros}

pub are_zeros-replicate : (n : ℕ) → are_zeros (replicate n 0) ≡ true
are_zeros-replicate zero = refl
are_zeros-replicate (suc n) = are_zeros-replicate n

pub zeros_are_replicate : (xs : List ℕ) → are_zeros xs ≡ true → xs ≡ replicate (length xs) 0
zeros_are_replicate [] all = refl
zeros_are_replicate (x ∷ xs) all =
    ap (λ (b : ℕ). b ∷ xs) (eqb-true x 0 (and_parts (x == 0) (are_zeros xs) all).0)
    ∙ ap (λ (l : List ℕ). 0 ∷ l) (zeros_are_replicate xs (and_parts (x == 0) (are_zeros xs) all).1)

and_true : (t : Bool) → (t && true) ≡ t
and_true true = refl
and_true false = refl

and_false : (t : Bool) → (t && false) ≡ false
and_false true = refl
and_false false = refl

-- the same blocks are claimed
pub claimed-with_zeros : (d : Dinode) (numbers : List ℕ) → blocks_claimed d (with_zeros numbers) ≡ blocks_claimed d numbers
claimed-with_zeros d numbers =
    let zeros = replicate (1036 - length numbers) 0 in
    ap (λ (l : List ℕ). cond (not (slice_index d.indirect 0 == 0)) (slice_index d.indirect 0 ∷ l) l)
    (nonzero-append numbers zeros ∙ ap (λ (l : List ℕ). nonzero numbers ++ l) (nonzero-zeros zeros (are_zeros-replicate (1036 - length numbers)))
    ∙ append-nil (nonzero numbers))

-- there is as much past an index
past_same : (n k : ℕ) (numbers : List ℕ) → are_zeros (drop n (numbers ++ replicate k 0)) ≡ are_zeros (drop n numbers)
past_same zero k numbers =
    list_all-append (λ b. b == 0) numbers (replicate k 0) ∙ ap (λ (t : Bool). are_zeros numbers && t) (are_zeros-replicate k) ∙ and_true (are_zeros numbers)
past_same (suc n) k [] = ap are_zeros (drop-replicate (suc n) k 0) ∙ are_zeros-replicate (k - suc n)
past_same (suc n) k (b ∷ numbers) = past_same n k numbers

-- there is the same hole
swapped : (a p x b y : Bool) → (a && x) ≡ (b && y) → (a && (p && x)) ≡ (b && (p && y))
swapped a true x b y same = same
swapped a false x b y same = and_false a ∙ sym (and_false b)

hole_same : (n k : ℕ) (numbers : List ℕ)
    → (nat_le n (length (numbers ++ replicate k 0)) && list_all (λ b. not (b == 0)) (take n (numbers ++ replicate k 0)))
    ≡ (nat_le n (length numbers) && list_all (λ b. not (b == 0)) (take n numbers))
hole_same zero k numbers =
    ap (λ (t : Bool). t && true) (le-leb 0 (length (numbers ++ replicate k 0)) (omega arith) ∙ sym (le-leb 0 (length numbers) (omega arith)))
hole_same (suc n) zero [] = refl
hole_same (suc n) (suc k) [] =
    and_false (nat_le (suc n) (suc (length (replicate k 0)))) ∙ sym (ap (λ (t : Bool). t && true) (lt-leb (suc n) 0 (omega arith)))
hole_same (suc n) k (b ∷ numbers) =
    let more = numbers ++ replicate k 0 in
    let held = list_all (λ c. not (c == 0)) in
    ap (λ (t : Bool). t && (not (b == 0) && held (take n more))) (leb-suc-suc n (length more))
    ∙ swapped (nat_le n (length more)) (not (b == 0)) (held (take n more)) (nat_le n (length numbers)) (held (take n numbers)) (hole_same n k numbers)
    ∙ sym (ap (λ (t : Bool). t && (not (b == 0) && held (take n numbers))) (leb-suc-suc n (length numbers)))

-- so the fields are as right
pub fields-with_zeros : (g : Geometry) (i : ℕ) (d : Dinode) (numbers : List ℕ) (chunks : List (Option (List Slot)))
    → has_right_fields g i (used_with d (with_zeros numbers) chunks) ≡ has_right_fields g i (used_with d numbers chunks)
fields-with_zeros g i d numbers chunks =
    let more = used_with d (with_zeros numbers) chunks in
    let u = used_with d numbers chunks in
    let zeros = 1036 - length numbers in
    let bodies = list_all (λ claim. is_body g claim.block) in
    let pointers = list_all (λ p. p.block == 0 || nat_lt 12 (size_in_blocks d.size)) u.pointers in
    let bodies_same : bodies (claims_in i more) ≡ bodies (claims_in i u) =
    bodies-claims_in g i d (with_zeros numbers) chunks ∙ ap (list_all (is_body g)) (claimed-with_zeros d numbers) ∙ sym (bodies-claims_in g i d numbers chunks) in
    let count_same : length (claims_in i more) ≡ length (claims_in i u) =
    length-claims_in i d (with_zeros numbers) chunks ∙ ap length (claimed-with_zeros d numbers) ∙ sym (length-claims_in i d numbers chunks) in
    let none_same : has_none_past more ≡ has_none_past u =
    ap (λ (t : Bool). t && pointers) (past_same (size_in_blocks d.size) zeros numbers) in
    let hole : has_no_hole more ≡ has_no_hole u = hole_same (size_in_blocks d.size) zeros numbers in
    ap (λ (t : Bool). has_right_links d && (has_right_size g d && t && has_none_past more && (is_file d.mode || has_no_hole more) && d.blocks == length (claims_in i more))) bodies_same
    ∙ ap (λ (t : Bool). has_right_links d && (has_right_size g d && bodies (claims_in i u) && t && (is_file d.mode || has_no_hole more) && d.blocks == length (claims_in i more))) none_same
    ∙ ap (λ (t : Bool). has_right_links d && (has_right_size g d && bodies (claims_in i u) && has_none_past u && (is_file d.mode || t) && d.blocks == length (claims_in i more))) hole
    ∙ ap (λ (n : ℕ). has_right_links d && (has_right_size g d && bodies (claims_in i u) && has_none_past u && (is_file d.mode || has_no_hole u) && d.blocks == n)) count_same

-- which inode it is, and what its chunks are, is nothing to its fields
pub fields_anywhere : (g : Geometry) (i j : ℕ) (d : Dinode) (numbers : List ℕ) (chunks others : List (Option (List Slot)))
    → has_right_fields g i (used_with d numbers chunks) ≡ has_right_fields g j (used_with d numbers others)
fields_anywhere g i j d numbers chunks others =
    let u = used_with d numbers chunks in
    let v = used_with d numbers others in
    let bodies = list_all (λ claim. is_body g claim.block) in
    ap (λ (t : Bool). has_right_links d && (has_right_size g d && t && has_none_past u && (is_file d.mode || has_no_hole u) && d.blocks == length (claims_in i u)))
    (bodies-claims_in g i d numbers chunks ∙ sym (bodies-claims_in g j d numbers others))
    ∙ ap (λ (n : ℕ). has_right_links d && (has_right_size g d && bodies (claims_in j v) && has_none_past u && (is_file d.mode || has_no_hole u) && d.blocks == n))
    (length-claims_in i d numbers chunks ∙ sym (length-claims_in j d numbers others))

-- the same number stands at each index
pub index-with_zeros : (numbers : List ℕ) (k : ℕ) → slice_index (with_zeros numbers) k ≡ slice_index numbers k
index-with_zeros numbers k = elim (cases_lt k (length numbers)) [
  | inl below ↦ get_or_append_left numbers (replicate (1036 - length numbers) 0) 0 k below
  | inr past ↦
      get_or-append_right numbers (replicate (1036 - length numbers) 0) (length numbers) k 0 refl past
      ∙ zeros (1036 - length numbers) (k - length numbers) ∙ sym (get_or_past numbers k 0 past)
]
  where
    zeros : (n j : ℕ) → slice_index (replicate n 0) j ≡ 0
    zeros n j = elim (cases_lt j n) [
      | inl below ↦ get_or-replicate n j 0 0 below
      | inr past ↦ get_or_past (replicate n 0) j 0 (omega (arith, length-replicate {A = ℕ} n 0))
    ]

-- the same chunks of a directory
pub chunks-with_zeros : (blocks : Blocks) (numbers : List ℕ) (places : List ℕ) → map (chunk_at blocks numbers) places ≡ map (chunk_at blocks (with_zeros numbers)) places
chunks-with_zeros blocks numbers [] = refl
chunks-with_zeros blocks numbers (k ∷ places) =
    ap (λ (b : ℕ). chunk_of (take 512 (drop (512 * (k % 8)) (block_numbered blocks b))) ∷ map (chunk_at blocks numbers) places) (sym (index-with_zeros numbers (k / 8)))
    ∙ ap (λ (l : List (Option (List Slot))). chunk_at blocks (with_zeros numbers) k ∷ l) (chunks-with_zeros blocks numbers places)

-- where there is no pointer block, the direct numbers are all that there are
pub direct_numbers : (blocks : Blocks) (d : Dinode) → length d.direct ≡ 12 → slice_index d.indirect 0 ≡ 0 → with_zeros d.direct ≡ numbers_of blocks d
direct_numbers blocks d size none =
    let rest : 1036 - length d.direct ≡ 1024 = omega (arith, size) in
    ap (λ (n : ℕ). d.direct ++ replicate n 0) rest
    ∙ ap (λ (l : List ℕ). d.direct ++ l) (sym (append-nil (replicate 1024 0)))
    ∙ ap (λ (p : ℕ). d.direct ++ (pointers_at blocks p ++ [])) (sym none)

pub told_direct : (content : Option Image) (d : Dinode) → length d.direct ≡ 12 → slice_index d.indirect 0 ≡ 0
    → IfSome content (λ image. with_zeros d.direct ≡ numbers_of (block image) d)
told_direct None d size none = tt
told_direct (Some image) d size none = direct_numbers (block image) d size none
