-- The bytes of a file that is written or cut: one that isn't touched was there before, and whole blocks stay whole.
use Rattle.std.proofs.Common.{◌≡◌, ◌<◌, ◌≤◌, ◌⊎◌, inl, inr, ℕ, zero, suc, ◌+◌, ◌-◌, ◌*◌, ◌/◌, ◌%◌, min, max, Bool, true, false, not, ◌&&◌, List, [], ◌∷◌, ◌++◌, length, take, drop, replicate, slice_get, slice_index, Option, Some, None, refl, sym, ap, ◌∙◌, subst, arith, length-append, get_or-take, get_or-drop}
use Rattle.std.specs.Prelude.{nat_le, nat_lt, ◌||◌, if◌then◌else◌, option_map, is_some, unwrap_or, IfSome, IsSomeAnd}
use Rattle.std.specs.Option.{option_flatten}
use Rattle.std.proofs.lemmas.Bool.{cases_lt, false≢true, both_ways, le-leb, lt-ltb, leb-false, ltb-true, and_parts}
use Rattle.std.proofs.lemmas.List.{get_or_append_left, length-take, length-drop, length-replicate}
use Rattle.volume_model.specs.Sound.{FileNode}
use Rattle.history_model.specs.FileBytes.{block_at, zeros, zeroed, resized, reaches, overlaid, written_block, map_from, at_length, written, cut_to}
use Rattle.history_model.specs.Touched.{write_touches, trunc_touches}
use Rattle.history_model.specs.CrashSafety.{HasByte}
use Rattle.history_laws.specs.WholeFiles.{IsWholeFile}
use Rattle.history_laws.proofs.RawBytes.{in_first, in_rest}

-- what f gives of the blocks, each with its index
get_mapped : (f : ℕ → Option (List ℕ) → Option (List ℕ)) (start : ℕ) (xs : List (Option (List ℕ))) (i : ℕ) → slice_get (map_from f start xs) i ≡ option_map (f (start + i)) (slice_get xs i)
get_mapped f start [] i = refl
get_mapped f start (x ∷ xs) zero = let at : start ≡ start + 0 = omega arith in ap (λ (k : ℕ). Some (f k x)) at
get_mapped f start (x ∷ xs) (suc i) =
    let at : start + 1 + i ≡ start + suc i = omega arith in
    get_mapped f (start + 1) xs i ∙ ap (λ (k : ℕ). option_map (f k) (slice_get xs i)) at

hole_there : (n m i : ℕ) (x : Option (List ℕ)) → slice_get (take n (replicate m None)) i ≡ Some x → None ≡ x
hole_there zero m i x is = absurd cc
hole_there (suc n) zero i x is = absurd cc
hole_there (suc n) (suc m) zero x is = cc
hole_there (suc n) (suc m) (suc i) x is = hole_there n m i x is

at_same : (blocks : List (Option (List ℕ))) (n m i : ℕ) (x : Option (List ℕ)) → slice_get (take n (blocks ++ replicate m None)) i ≡ Some x → option_flatten (slice_get blocks i) ≡ x
at_same [] n m i x is = hole_there n m i x is
at_same (b ∷ blocks) zero m i x is = absurd cc
at_same (b ∷ blocks) (suc n) m zero x is = cc
at_same (b ∷ blocks) (suc n) m (suc i) x is = at_same blocks n m i x is

-- so a block that is there after is f of the block that was there
module _ (f : ℕ → Option (List ℕ) → Option (List ℕ)) (blocks : List (Option (List ℕ))) (n i : ℕ) (P : List ℕ → Type 0) where
  mapped : slice_get (map_from f 0 (at_length n blocks)) i ≡ option_map (f i) (slice_get (at_length n blocks) i)
  mapped = get_mapped f 0 (at_length n blocks) i ∙ (let at : 0 + i ≡ i = omega arith in ap (λ (k : ℕ). option_map (f k) (slice_get (at_length n blocks) i)) at)

  block_was : IsSomeAnd (option_flatten (slice_get (map_from f 0 (at_length n blocks)) i)) P → IsSomeAnd (f i (option_flatten (slice_get blocks i))) P
  block_was some = by_get (slice_get (at_length n blocks) i) refl (subst (λ (o : Option (Option (List ℕ))). IsSomeAnd (option_flatten o) P) mapped some)
    where
      by_get : (o : Option (Option (List ℕ))) → slice_get (at_length n blocks) i ≡ o → IsSomeAnd (option_flatten (option_map (f i) o)) P → IsSomeAnd (f i (option_flatten (slice_get blocks i))) P
      by_get None none is = absurd is
      by_get (Some x) there is = subst (λ (y : Option (List ℕ)). IsSomeAnd (f i y) P) (sym (at_same blocks n n i x there)) is

  block_stays : IfSome (f i (option_flatten (slice_get blocks i))) P → IfSome (option_flatten (slice_get (map_from f 0 (at_length n blocks)) i)) P
  block_stays each = subst (λ (o : Option (Option (List ℕ))). IfSome (option_flatten o) P) (sym mapped) (by_get (slice_get (at_length n blocks) i) refl)
    where
      by_get : (o : Option (Option (List ℕ))) → slice_get (at_length n blocks) i ≡ o → IfSome (option_flatten (option_map (f i) o)) P
      by_get None none = tt
      by_get (Some x) there = subst (λ (y : Option (List ℕ)). IfSome (f i y) P) (at_same blocks n n i x there) each

-- a block with the bytes past the old size zeroed
module _ (old index : ℕ) (b : List ℕ) (whole : length b ≡ 4096) where
  whole_zeroed : length (zeroed old index b) ≡ 4096
  whole_zeroed = by_test (nat_le (4096 * (index + 1)) old) refl
    where
      by_test : (t : Bool) → nat_le (4096 * (index + 1)) old ≡ t → length (if t then b else take (old - 4096 * index) b ++ replicate (4096 - (old - 4096 * index)) 0) ≡ 4096
      by_test true is = whole
      by_test false is =
          omega (
            arith,
            whole,
            leb-false (4096 * (index + 1)) old is,
            length-take (old - 4096 * index) b,
            length-replicate {A = ℕ} (4096 - (old - 4096 * index)) 0,
            length-append (take (old - 4096 * index) b) (replicate (4096 - (old - 4096 * index)) 0),
          )

  byte_zeroed : (q : ℕ) → q < 4096 → 4096 * index + q < old → slice_index (zeroed old index b) q ≡ slice_index b q
  byte_zeroed q inside before = by_test (nat_le (4096 * (index + 1)) old) refl
    where
      by_test : (t : Bool) → nat_le (4096 * (index + 1)) old ≡ t → slice_index (if t then b else take (old - 4096 * index) b ++ replicate (4096 - (old - 4096 * index)) 0) q ≡ slice_index b q
      by_test true is = refl
      by_test false is =
          get_or_append_left (take (old - 4096 * index) b) (replicate (4096 - (old - 4096 * index)) 0) 0 q (omega (arith, whole, before, inside, length-take (old - 4096 * index) b))
          ∙ get_or-take (old - 4096 * index) b q 0 (omega (arith, before))

  whole_resized : (new : ℕ) → IfSome (resized old new index (Some b)) (λ bytes. length bytes ≡ 4096)
  whole_resized new = elim (nat_lt old new) as (λ t. IfSome (if t then Some (zeroed old index b) else Some b) (λ bytes. length bytes ≡ 4096)) [ true ↦ whole_zeroed | false ↦ whole ]

  abbrev block_resized : Bool → List ℕ
  block_resized t = if t then zeroed old index b else b

  resized_is : (new : ℕ) → resized old new index (Some b) ≡ Some (block_resized (nat_lt old new))
  resized_is new = elim (nat_lt old new) as (λ t. ◌≡◌ {A = Option (List ℕ)} (if t then Some (zeroed old index b) else Some b) (Some (block_resized t))) [ true ↦ refl | false ↦ refl ]

  whole_block : (t : Bool) → length (block_resized t) ≡ 4096
  whole_block true = whole_zeroed
  whole_block false = whole

  byte_block : (t : Bool) (q : ℕ) → q < 4096 → 4096 * index + q < old → slice_index (block_resized t) q ≡ slice_index b q
  byte_block true q inside before = byte_zeroed q inside before
  byte_block false q inside before = refl

-- a block with bytes laid over
module _ (offset : ℕ) (bytes : List ℕ) (index : ℕ) (b : List ℕ) (whole : length b ≡ 4096) (reached : reaches offset (length bytes) index ≡ true) where
  abbrev from : ℕ
  from = max offset (4096 * index)

  abbrev to : ℕ
  to = min (offset + length bytes) (4096 * (index + 1))

  abbrev at : ℕ
  at = from - 4096 * index

  abbrev mid : List ℕ
  mid = take (to - from) (drop (from - offset) bytes)

  low : offset < 4096 * (index + 1)
  low = ltb-true offset (4096 * (index + 1)) (and_parts (nat_lt offset (4096 * (index + 1))) (nat_lt (4096 * index) (offset + length bytes)) reached).0

  high : 4096 * index < offset + length bytes
  high = ltb-true (4096 * index) (offset + length bytes) (and_parts (nat_lt offset (4096 * (index + 1))) (nat_lt (4096 * index) (offset + length bytes)) reached).1

  mid_length : length mid ≡ to - from
  mid_length = omega (arith, low, high, length-take (to - from) (drop (from - offset) bytes), length-drop (from - offset) bytes)

  front_length : length (take at b) ≡ at
  front_length = omega (arith, low, whole, length-take at b)

  whole_overlaid : length (overlaid offset bytes index b) ≡ 4096
  whole_overlaid =
      omega (arith, low, high, whole, front_length, mid_length, length-append (take at b) (mid ++ drop (at + length mid) b), length-append mid (drop (at + length mid) b), length-drop (at + length mid) b)

  byte_overlaid : (q : ℕ) → q < 4096 → (4096 * index + q < offset) ⊎ (offset + length bytes ≤ 4096 * index + q) → slice_index (overlaid offset bytes index b) q ≡ slice_index b q
  byte_overlaid q inside (inl before) =
      in_first (take at b) mid (drop (at + length mid) b) q (omega (arith, before, front_length, low)) ∙ get_or-take at b q 0 (omega (arith, before))
  byte_overlaid q inside (inr after) =
      let past : at + length mid ≤ q = omega (arith, after, mid_length, low, high, inside) in
      in_rest (take at b) mid (drop (at + length mid) b) at q (q - (at + length mid)) front_length (omega (arith, past))
      ∙ get_or-drop (at + length mid) b (q - (at + length mid)) 0 ∙ (let same : at + length mid + (q - (at + length mid)) ≡ q = omega (arith, past) in ap (slice_index b) same)

whole_zeros : length zeros ≡ 4096
whole_zeros = length-replicate {A = ℕ} 4096 0

-- whole blocks stay whole
whole_resized_block : (old new index : ℕ) (o : Option (List ℕ)) → IfSome o (λ bytes. length bytes ≡ 4096) → IfSome (resized old new index o) (λ bytes. length bytes ≡ 4096)
whole_resized_block old new index None whole = elim (nat_lt old new) as (λ t. IfSome {T = List ℕ} (if t then None else None) (λ bytes. length bytes ≡ 4096)) [ true ↦ tt | false ↦ tt ]
whole_resized_block old new index (Some b) whole = whole_resized old index b whole new

whole_or_zeros : (o : Option (List ℕ)) → IfSome o (λ bytes. length bytes ≡ 4096) → length (unwrap_or o zeros) ≡ 4096
whole_or_zeros None whole = whole_zeros
whole_or_zeros (Some b) whole = whole

whole_written_block : (old new offset : ℕ) (bytes : List ℕ) (index : ℕ) (o : Option (List ℕ)) → IfSome o (λ bytes. length bytes ≡ 4096) → IfSome (written_block old new offset bytes index o) (λ bytes. length bytes ≡ 4096)
whole_written_block old new offset bytes index o whole = by_reach (reaches offset (length bytes) index) refl
  where
    by_reach : (t : Bool) → reaches offset (length bytes) index ≡ t
        → IfSome (if t then Some (overlaid offset bytes index (unwrap_or (resized old new index o) zeros)) else resized old new index o) (λ bytes. length bytes ≡ 4096)
    by_reach true reached = whole_overlaid offset bytes index (unwrap_or (resized old new index o) zeros) (whole_or_zeros (resized old new index o) (whole_resized_block old new index o whole)) reached
    by_reach false not = whole_resized_block old new index o whole

pub whole_written : (file : FileNode) (offset : ℕ) (bytes : List ℕ) → IsWholeFile file → IsWholeFile (written file offset bytes)
whole_written file offset bytes whole index =
    block_stays (written_block file.size (max file.size (offset + length bytes)) offset bytes) file.blocks _ index (λ bytes. length bytes ≡ 4096)
    (whole_written_block file.size (max file.size (offset + length bytes)) offset bytes index (block_at file index) (whole index))

pub whole_cut : (file : FileNode) (size : ℕ) → IsWholeFile file → IsWholeFile (cut_to file size)
whole_cut file size whole index =
    block_stays (resized file.size size) file.blocks _ index (λ bytes. length bytes ≡ 4096) (whole_resized_block file.size size index (block_at file index) (whole index))

-- a byte below both sizes, of a block that is there
resized_was : (old new index q value : ℕ) (b : List ℕ) → length b ≡ 4096 → q < 4096 → 4096 * index + q < old → IsSomeAnd (resized old new index (Some b)) (λ bytes. slice_index bytes q ≡ value) → slice_index b q ≡ value
resized_was old new index q value b whole inside before is =
    sym (byte_block old index b whole (nat_lt old new) q inside before)
    ∙ subst (λ (o : Option (List ℕ)). IsSomeAnd o (λ bytes. slice_index bytes q ≡ value)) (resized_is old index b whole new) is

resized_hole : (old new index q value : ℕ) → IsSomeAnd (resized old new index None) (λ bytes. slice_index bytes q ≡ value) → ⊥
resized_hole old new index q value = elim (nat_lt old new) as (λ t. IsSomeAnd (if t then None else None) (λ bytes. slice_index bytes q ≡ value) → ⊥) [ true ↦ λ is. is | false ↦ λ is. is ]

not_zeroed : (old new p : ℕ) → (nat_lt old new && nat_le old p && true) ≡ false → p < new → p < old
not_zeroed old new p test below = elim (cases_lt p old) [
  | inl before ↦ before
  | inr past ↦ let less : old < new = omega (arith, past, below) in
      absurd (both_ways (nat_lt old new && nat_le old p && true) test (both (both (lt-ltb old new less) (le-leb old p past)) refl))
]
  where
    both : {a b : Bool} → a ≡ true → b ≡ true → (a && b) ≡ true
    both one two = λ t. one t && two t

neither_left : (a b : Bool) → (a || b) ≡ false → a ≡ false
neither_left true b is = is
neither_left false b is = refl

neither_right : (a b : Bool) → (a || b) ≡ false → b ≡ false
neither_right true b is = absurd (false≢true (sym is))
neither_right false b is = is

-- trunc
cut_was : (file : FileNode) (size p value : ℕ) (o : Option (List ℕ)) → IfSome o (λ bytes. length bytes ≡ 4096) → p < size
    → (nat_le size p || (nat_lt file.size size && nat_le file.size p && is_some o)) ≡ false → IsSomeAnd (resized file.size size (p / 4096) o) (λ bytes. slice_index bytes (p % 4096) ≡ value)
    → (p < file.size) × IsSomeAnd o (λ bytes. slice_index bytes (p % 4096) ≡ value)
cut_was file size p value None whole below spared is = absurd (resized_hole file.size size (p / 4096) (p % 4096) value is)
cut_was file size p value (Some b) whole below spared is =
    let before : p < file.size = not_zeroed file.size size p (neither_right (nat_le size p) (nat_lt file.size size && nat_le file.size p && true) spared) below in
    let inside : p % 4096 < 4096 = omega arith in
    (before, resized_was file.size size (p / 4096) (p % 4096) value b whole inside (omega (arith, before)) is)

pub cut_spares : (file : FileNode) (size p value : ℕ) → IsWholeFile file → trunc_touches file size p ≡ false → HasByte (cut_to file size) p value → HasByte file p value
cut_spares file size p value whole spared has =
    let was = block_was (resized file.size size) file.blocks _ (p / 4096) (λ bytes. slice_index bytes (p % 4096) ≡ value) has.claimed in
    let both = cut_was file size p value (block_at file (p / 4096)) (whole (p / 4096)) has.below spared was in
    record { below = both.0; claimed = both.1 }

-- write
beside : (offset count p : ℕ) → (nat_le offset p && nat_lt p (offset + count)) ≡ false → (p < offset) ⊎ (offset + count ≤ p)
beside offset count p not = elim (cases_lt p offset) [
  | inl before ↦ inl before
  | inr from ↦ elim (cases_lt p (offset + count)) [
    | inl inside ↦ absurd (both_ways (nat_le offset p && nat_lt p (offset + count)) not (λ t. le-leb offset p from t && lt-ltb p (offset + count) inside t))
    | inr past ↦ inr past
  ]
]

write_was : (file : FileNode) (offset : ℕ) (bytes : List ℕ) (p value : ℕ) (o : Option (List ℕ)) → IfSome o (λ bytes. length bytes ≡ 4096) → p < max file.size (offset + length bytes)
    → (nat_le offset p && nat_lt p (offset + length bytes) || (nat_lt file.size (offset + length bytes) && nat_le file.size p && is_some o) || (reaches offset (length bytes) (p / 4096) && not (is_some o))) ≡ false
    → IsSomeAnd (written_block file.size (max file.size (offset + length bytes)) offset bytes (p / 4096) o) (λ bytes. slice_index bytes (p % 4096) ≡ value)
    → (p < file.size) × IsSomeAnd o (λ bytes. slice_index bytes (p % 4096) ≡ value)
write_was file offset bytes p value o whole below spared is = by_reach (reaches offset (length bytes) (p / 4096)) refl o whole spared is
  where
    inside : p % 4096 < 4096
    inside = omega arith

    range : (o : Option (List ℕ)) (t : Bool) → (nat_le offset p && nat_lt p (offset + length bytes) || (nat_lt file.size (offset + length bytes) && nat_le file.size p && is_some o) || (t && not (is_some o))) ≡ false
        → (p < offset) ⊎ (offset + length bytes ≤ p)
    range o t spared =
        beside offset (length bytes) p
        (neither_left (nat_le offset p && nat_lt p (offset + length bytes)) (nat_lt file.size (offset + length bytes) && nat_le file.size p && is_some o)
        (neither_left (nat_le offset p && nat_lt p (offset + length bytes) || (nat_lt file.size (offset + length bytes) && nat_le file.size p && is_some o)) (t && not (is_some o)) spared))

    before : (t : Bool) → (nat_le offset p && nat_lt p (offset + length bytes) || (nat_lt file.size (offset + length bytes) && nat_le file.size p && true) || (t && false)) ≡ false → p < file.size
    before t spared = elim (cases_lt p (offset + length bytes)) [
      | inl low ↦
          not_zeroed file.size (offset + length bytes) p
          (neither_right (nat_le offset p && nat_lt p (offset + length bytes)) (nat_lt file.size (offset + length bytes) && nat_le file.size p && true)
          (neither_left (nat_le offset p && nat_lt p (offset + length bytes) || (nat_lt file.size (offset + length bytes) && nat_le file.size p && true)) (t && false) spared)) low
      | inr past ↦ omega (arith, past, below)
    ]

    by_reach : (t : Bool) → reaches offset (length bytes) (p / 4096) ≡ t → (o : Option (List ℕ)) → IfSome o (λ bytes. length bytes ≡ 4096)
        → (nat_le offset p && nat_lt p (offset + length bytes) || (nat_lt file.size (offset + length bytes) && nat_le file.size p && is_some o) || (t && not (is_some o))) ≡ false
        → IsSomeAnd (if t then Some (overlaid offset bytes (p / 4096) (unwrap_or (resized file.size (max file.size (offset + length bytes)) (p / 4096) o) zeros))
        else resized file.size (max file.size (offset + length bytes)) (p / 4096) o) (λ bytes. slice_index bytes (p % 4096) ≡ value)
        → (p < file.size) × IsSomeAnd o (λ bytes. slice_index bytes (p % 4096) ≡ value)
    by_reach true reached None whole spared is =
        absurd (false≢true (sym (neither_right (nat_le offset p && nat_lt p (offset + length bytes) || (nat_lt file.size (offset + length bytes) && nat_le file.size p && false)) true spared)))
    by_reach true reached (Some b) whole spared is =
        let now = resized_is file.size (p / 4096) b whole (max file.size (offset + length bytes)) in
        let t = nat_lt file.size (max file.size (offset + length bytes)) in
        let c : List ℕ = block_resized file.size (p / 4096) b whole t in
        let early : p < file.size = before true spared in
        let at : 4096 * (p / 4096) + p % 4096 ≡ p = omega arith in
        let apart = subst (λ (k : ℕ). (k < offset) ⊎ (offset + length bytes ≤ k)) (sym at) (range (Some b) true spared) in
        let laid : slice_index (overlaid offset bytes (p / 4096) c) (p % 4096) ≡ value =
        subst (λ (x : Option (List ℕ)). slice_index (overlaid offset bytes (p / 4096) (unwrap_or x zeros)) (p % 4096) ≡ value) now is in (
          early,
          sym (byte_block file.size (p / 4096) b whole t (p % 4096) inside (omega (arith, early)))
              ∙ sym (byte_overlaid offset bytes (p / 4096) c (whole_block file.size (p / 4096) b whole t) reached (p % 4096) inside apart) ∙ laid,
        )
    by_reach false not None whole spared is = absurd (resized_hole file.size (max file.size (offset + length bytes)) (p / 4096) (p % 4096) value is)
    by_reach false not (Some b) whole spared is =
        let early : p < file.size = before false spared in
        (early, resized_was file.size (max file.size (offset + length bytes)) (p / 4096) (p % 4096) value b whole inside (omega (arith, early)) is)

pub write_spares : (file : FileNode) (offset : ℕ) (bytes : List ℕ) (p value : ℕ) → IsWholeFile file → write_touches file offset (length bytes) p ≡ false → HasByte (written file offset bytes) p value
    → HasByte file p value
write_spares file offset bytes p value whole spared has =
    let was = block_was (written_block file.size (max file.size (offset + length bytes)) offset bytes) file.blocks _ (p / 4096) (λ bytes. slice_index bytes (p % 4096) ≡ value) has.claimed in
    let both = write_was file offset bytes p value (block_at file (p / 4096)) (whole (p / 4096)) has.below spared was in
    record { below = both.0; claimed = both.1 }
