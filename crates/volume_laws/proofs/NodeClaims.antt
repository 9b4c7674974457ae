-- How many blocks an inode claims, if its fields are right: as many as its node.
use Rattle.std.proofs.Common.{◌≡◌, ℕ, ◌+◌, ◌-◌, ◌*◌, ◌/◌, ◌%◌, ◌<◌, ◌≤◌, ◌⊎◌, inl, inr, Bool, true, false, not, ◌&&◌, ◌||◌, cond, List, [], ◌∷◌, ◌++◌, length, take, drop, map, slice_index, Option, Some, None, refl, sym, ap, ◌∙◌, arith}
use Rattle.std.specs.Prelude.{nat_le, nat_lt, ◌==◌, is_some, if◌then◌else◌, unwrap_or, replicate}
use Rattle.std.specs.List.{count_by, filter, range_with_len}
use Rattle.std.proofs.lemmas.Bool.{cases_lt, and_left, and_parts, or_cases, cond-true, cond-false, cond_both, eqb-true, eq-eqb, leb-true, le-ltb, not_from_true, false≢true}
use Rattle.std.proofs.lemmas.List.{get_or-append_right, get_or-take, get_or-drop, get_or_past, length-take-le, length-map}
use Rattle.std.proofs.lemmas.List.Sums.{sum_by-cons, length-filter, AllPass-from_list_all}
use Rattle.lufs_base.specs.Fields.{are_zeros}
use Rattle.lufs_base.specs.declared.geometry.Geometry.{Geometry}
use Rattle.volume_model.specs.declared.inode.Dinode.{Dinode}
use Rattle.volume_model.specs.Format.{Blocks, is_file, is_directory, is_link, pointers_of}
use Rattle.volume_model.specs.Sound.{used_inode, chunks_at, pointers_at, Single, Claim, index_claim, pointer_claim, claims_in, size_in_blocks, has_right_size, has_no_hole, Node, directory_blocks, claimed_by, file_block, file_blocks, pointer_names, node_of, NamedPointer, index_claims, most_blocks}
use Rattle.volume_laws.proofs.FieldFacts.{HasRightFields}
use Rattle.volume_laws.proofs.ClaimFacts.{by_index}
use Rattle.volume_laws.proofs.SameReading.{chunks_counted}
use Rattle.volume_laws.proofs.Counting.{one_if, total, total_same, total_constant, total_stops, sum_of_range, sum_of_map}

-- 1 for an index that has a block
abbrev at_index : List ℕ → ℕ → ℕ
at_index numbers index = one_if (not (slice_index numbers index == 0))

no_block : (numbers : List ℕ) (index : ℕ) → slice_index numbers index ≡ 0 → at_index numbers index ≡ 0
no_block numbers index none =
    cond-false (not (slice_index numbers index == 0)) 1 0 (not_from_true (slice_index numbers index == 0) (eq-eqb _ 0 none))

past_zeros : (numbers : List ℕ) (n index : ℕ) → are_zeros (drop n numbers) ≡ true → n ≤ index → slice_index numbers index ≡ 0
past_zeros numbers n index zeros past =
    let at : n + (index - n) ≡ index = omega (arith, past) in
    let moved : slice_index (drop n numbers) (index - n) ≡ slice_index numbers index =
    get_or-drop n numbers (index - n) 0 ∙ ap (slice_index numbers) at in
    elim (cases_lt (index - n) (length (drop n numbers))) [
      | inl inside ↦ sym moved ∙ eqb-true _ 0 (AllPass-from_list_all (λ b. b == 0) (drop n numbers) zeros (index - n) 0 inside)
      | inr outside ↦ sym moved ∙ get_or_past (drop n numbers) (index - n) 0 outside
    ]

-- the claims of an inode: its pointer block, and those at its indexes below its size
abbrev pointer_of : Dinode → NamedPointer
pointer_of d = record { name = Single; block = slice_index d.indirect 0 }

claims_counted : {g : Geometry} (blocks : Blocks) (d : Dinode) (i : ℕ) → HasRightFields g i (used_inode blocks d)
    → length (claims_in i (used_inode blocks d))
    ≡ one_if (not ((pointer_of d).block == 0)) + total (at_index (used_inode blocks d).numbers) (size_in_blocks d.size)
claims_counted blocks d i right =
    let u = used_inode blocks d in
    let p = pointer_of d in
    let claims : Claim → Bool = λ claim. not (claim.block == 0) in
    let walked : List Claim = index_claims i 0 u.numbers in
    let indexes : List Claim = map (index_claim i u) (range_with_len 0 (length u.numbers)) in
    let all : length (claims_in i u) ≡ count_by claims (pointer_claim i p ∷ walked) = length-filter claims (pointer_claim i p ∷ walked) in
    let first : count_by claims (pointer_claim i p ∷ walked) ≡ one_if (not (p.block == 0)) + count_by claims walked =
    sum_by-cons (λ claim. one_if (claims claim)) (pointer_claim i p) walked in
    let rest : count_by claims walked ≡ total (at_index u.numbers) (length u.numbers) =
    ap (count_by claims) (by_index i u)
    ∙ sum_of_map (λ claim. one_if (claims claim)) (index_claim i u) (range_with_len 0 (length u.numbers))
    ∙ sum_of_range (at_index u.numbers) (length u.numbers) in
    let cut : total (at_index u.numbers) (length u.numbers) ≡ total (at_index u.numbers) (size_in_blocks d.size) =
    total_stops (at_index u.numbers) (length u.numbers) (size_in_blocks d.size)
    (λ index past. no_block u.numbers index (get_or_past u.numbers index 0 past))
    (λ index past. no_block u.numbers index (past_zeros u.numbers (size_in_blocks d.size) index right.none_past past)) in
    all ∙ first ∙ ap (λ (k : ℕ). one_if (not (p.block == 0)) + k) (rest ∙ cut)

is_there : {X : Type 0} (none : Bool) (x : X) → is_some (if none then None else Some x) ≡ not none
is_there true x = refl
is_there false x = refl

names_counted : (p : NamedPointer) → length (map (λ q. q.name) (filter (λ q. not (q.block == 0)) (p ∷ []))) ≡ one_if (not (p.block == 0))
names_counted p = elim (not (p.block == 0)) as (λ t. length (map (λ (q : NamedPointer). q.name) (cond t (p ∷ []) [])) ≡ one_if t) [ true ↦ refl | false ↦ refl ]

-- those of a file
of_file : (blocks : Blocks) (d : Dinode)
    → one_if (not ((pointer_of d).block == 0)) + total (at_index (used_inode blocks d).numbers) (size_in_blocks d.size)
    ≡ count_by is_some (file_blocks blocks (used_inode blocks d)) + length (pointer_names (used_inode blocks d))
of_file blocks d =
    let u = used_inode blocks d in
    let s = size_in_blocks d.size in
    let block : ℕ → Option (List ℕ) = λ index. file_block blocks (slice_index u.numbers index) in
    let counted : count_by is_some (file_blocks blocks u) ≡ total (λ index. one_if (is_some (block index))) s =
    sum_of_map (λ b. one_if (is_some b)) block (range_with_len 0 s) ∙ sum_of_range (λ index. one_if (is_some (block index))) s in
    let same : total (λ index. one_if (is_some (block index))) s ≡ total (at_index u.numbers) s =
    total_same (λ index. one_if (is_some (block index))) (at_index u.numbers) s (λ index below.
    ap one_if (is_there (slice_index u.numbers index == 0) (take 4096 (blocks (slice_index u.numbers index))))) in
    omega (arith, counted, same, names_counted (pointer_of d))

needed : (absent wanted : Bool) → (absent || wanted) ≡ true → (absent ≡ true → wanted ≡ false) → one_if (not absent) ≡ one_if wanted
needed true wanted either not_both = ap one_if (sym (not_both refl))
needed false wanted either not_both = ap one_if (sym either)

-- without a pointer block there is none at index 12
no_thirteenth : (blocks : Blocks) (d : Dinode) → ((pointer_of d).block == 0) ≡ true → length d.direct ≡ 12 → slice_index (used_inode blocks d).numbers 12 ≡ 0
no_thirteenth blocks d none direct =
    let zeros : List ℕ = replicate 1024 0 in
    let number = (pointer_of d).block in
    let behind : pointers_at blocks number ≡ zeros = cond-true (number == 0) zeros (pointers_of (blocks number)) none in
    ap (λ (l : List ℕ). slice_index (d.direct ++ (l ++ [])) 12) behind
    ∙ get_or-append_right d.direct (zeros ++ []) 12 12 0 direct (omega arith)

pub second_of : (first second : Bool) → (first || second) ≡ true → first ≡ false → second ≡ true
second_of first second either no_first = elim (or_cases first second either) [
  | inl is ↦ absurd (false≢true (sym no_first ∙ is))
  | inr is ↦ is
]

-- those of a directory or a link, which have no hole
without_hole : {g : Geometry} {i : ℕ} (blocks : Blocks) (d : Dinode) → HasRightFields g i (used_inode blocks d) → length d.direct ≡ 12 → is_file d.mode ≡ false
    → one_if (not ((pointer_of d).block == 0)) + total (at_index (used_inode blocks d).numbers) (size_in_blocks d.size)
    ≡ size_in_blocks d.size + one_if (nat_lt 12 (size_in_blocks d.size))
without_hole blocks d right direct no_file =
    let numbers = (used_inode blocks d).numbers in
    let s = size_in_blocks d.size in
    let parts = and_parts _ _ (second_of (is_file d.mode) (has_no_hole (used_inode blocks d)) right.no_hole no_file) in
    let fits : s ≤ length numbers = leb-true s (length numbers) parts.0 in
    let number = (pointer_of d).block in
    let there : (index : ℕ) → index < s → not (slice_index numbers index == 0) ≡ true = λ index below.
    let inside : index < length (take s numbers) = omega (arith, length-take-le s numbers fits, below) in
    ap (λ (n : ℕ). not (n == 0)) (sym (get_or-take s numbers index 0 below))
    ∙ AllPass-from_list_all (λ number. not (number == 0)) (take s numbers) parts.1 index 0 inside in
    let each : total (at_index numbers) s ≡ s * 1 =
    total_constant (at_index numbers) 1 s (λ index below.
    cond-true (not (slice_index numbers index == 0)) 1 0 (there index below)) in
    let pointer : one_if (not (number == 0)) ≡ one_if (nat_lt 12 s) =
    needed (number == 0) (nat_lt 12 s) (and_parts _ true right.pointers_needed).0 (λ none. elim (cases_lt 12 s) [
      | inl more ↦ absurd (false≢true (sym (not_from_true (slice_index numbers 12 == 0) (eq-eqb (slice_index numbers 12) 0 (no_thirteenth blocks d none direct))) ∙ there 12 more))
      | inr few ↦ le-ltb 12 s few
    ]) in
    omega (arith, each, pointer)

-- a directory is whole chunks, and a link has one block
abbrev sized_as_file : Geometry → Dinode → Bool
sized_as_file g d = is_file d.mode && nat_le d.size (4096 * most_blocks g)

abbrev sized_as_directory : Dinode → Bool
sized_as_directory d = is_directory d.mode && d.size % 512 == 0 && nat_le 512 d.size && nat_le d.size (4096 * 256)

abbrev sized_as_link : Dinode → Bool
sized_as_link d = is_link d.mode && nat_le 1 d.size && nat_le d.size 1024

pub sized : (g : Geometry) (d : Dinode) → has_right_size g d ≡ true → is_file d.mode ≡ false → (sized_as_directory d ≡ true) ⊎ (sized_as_link d ≡ true)
sized g d right no_file = elim (or_cases (sized_as_file g d || sized_as_directory d) (sized_as_link d) right) [
  | inl either ↦
      inl (second_of (sized_as_file g d) (sized_as_directory d) either
      (and_left (is_file d.mode) (nat_le d.size (4096 * most_blocks g)) no_file))
  | inr link ↦ inr link
]

pub directory_size : (g : Geometry) (d : Dinode) → has_right_size g d ≡ true → is_file d.mode ≡ false → is_directory d.mode ≡ true → d.size % 512 ≡ 0
directory_size g d right no_file directory = elim (sized g d right no_file) [
  | inl chunks ↦ eqb-true (d.size % 512) 0 (and_parts _ _ (and_parts _ _ (and_parts _ _ chunks).0).0).1
  | inr link ↦
      let above : 0xa000 ≤ d.mode = leb-true 0xa000 d.mode (and_parts (nat_le 0xa000 d.mode) (nat_le d.mode (0xa000 + 0x1ff)) (and_parts _ _ (and_parts _ _ link).0).0).0 in
      let below : d.mode ≤ 0x4000 + 0x1ff = leb-true d.mode (0x4000 + 0x1ff) (and_parts (nat_le 0x4000 d.mode) (nat_le d.mode (0x4000 + 0x1ff)) directory).1 in
      absurd (omega (arith, above, below))
]

pub link_size : (g : Geometry) (d : Dinode) → has_right_size g d ≡ true → is_file d.mode ≡ false → is_directory d.mode ≡ false → size_in_blocks d.size ≡ 1
link_size g d right no_file no_directory = elim (sized g d right no_file) [
  | inl chunks ↦ absurd (false≢true (sym no_directory ∙ (and_parts _ _ (and_parts _ _ (and_parts _ _ chunks).0).0).0))
  | inr link ↦
      let parts = and_parts (is_link d.mode && nat_le 1 d.size) (nat_le d.size 1024) link in
      let some : 1 ≤ d.size = leb-true 1 d.size (and_parts (is_link d.mode) (nat_le 1 d.size) parts.0).1 in
      let few : d.size ≤ 1024 = leb-true d.size 1024 parts.1 in
      omega (arith, some, few)
]

of_directory : (blocks : Blocks) (d : Dinode) → is_directory d.mode ≡ true → d.size % 512 ≡ 0
    → size_in_blocks d.size + one_if (nat_lt 12 (size_in_blocks d.size))
    ≡ directory_blocks (length (map (λ chunk. unwrap_or chunk []) (chunks_at blocks d)))
of_directory blocks d directory whole =
    let chunks = chunks_at blocks d in
    let long : length (map (λ chunk. unwrap_or chunk []) chunks) ≡ d.size / 512 =
    length-map chunks (λ chunk. unwrap_or chunk []) ∙ chunks_counted blocks d directory in
    let same : size_in_blocks d.size ≡ (d.size / 512 + 7) / 8 = omega (arith, whole) in
    ap (λ (k : ℕ). k + one_if (nat_lt 12 k)) same ∙ sym (ap directory_blocks long)

-- an inode claims as many blocks as its node
pub claims_of_node : {g : Geometry} (blocks : Blocks) (d : Dinode) (i : ℕ) → HasRightFields g i (used_inode blocks d) → length d.direct ≡ 12
    → length (claims_in i (used_inode blocks d)) ≡ claimed_by (node_of blocks (used_inode blocks d))
claims_of_node {g = g} blocks d i right direct =
    let u = used_inode blocks d in
    let claims = length (claims_in i u) in
    let counted = claims_counted blocks d i right in
    cond_both (is_file d.mode) _ _ (λ (node : Node). claims ≡ claimed_by node) (λ file. counted ∙ of_file blocks d) (λ no_file.
    let whole : claims ≡ size_in_blocks d.size + one_if (nat_lt 12 (size_in_blocks d.size)) = counted ∙ without_hole blocks d right direct no_file in
    cond_both (is_directory d.mode) _ _ (λ (node : Node). claims ≡ claimed_by node) (λ directory.
    whole ∙ of_directory blocks d directory (directory_size g d right.size no_file directory)) (λ no_directory.
    whole ∙ ap (λ (k : ℕ). k + one_if (nat_lt 12 k)) (link_size g d right.size no_file no_directory)))
