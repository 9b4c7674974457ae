-- The numbers of an inode, read in one part or in two.
use Rattle.std.proofs.Common.{◌≡◌, ◌<◌, inl, inr, ℕ, ◌-◌, eqb, Bool, true, false, not, ◌&&◌, if◌then◌else◌, List, ◌++◌, length, replicate, slice_index, Option, Some, None, IfSome, refl, sym, ap, ◌∙◌, arith, append-nil}
use Rattle.std.specs.Prelude.{nat_lt}
use Rattle.std.specs.List.{flat_map}
use Rattle.std.proofs.lemmas.Bool.{cases_lt, lt-ltb, and_parts, not-true, false≢true}
use Rattle.std.proofs.lemmas.List.{get_or-append_right, get_or-replicate, get_or_append_left, get_or_past, length-replicate}
use Rattle.volume_model.specs.declared.inode.Dinode.{Dinode}
use Rattle.volume_model.specs.Format.{Blocks, Image, block, pointers_of}
use Rattle.volume_model.specs.Sound.{named_pointers, pointers_at, numbers_of}
use Rattle.block_numbers.specs.Needed.{needs_pointers}

zeros_alone : (n k : ℕ) → slice_index (replicate n 0) k ≡ 0
zeros_alone n k = elim (cases_lt k n) [
  | inl below ↦ get_or-replicate n k 0 0 below
  | inr past ↦ get_or_past (replicate n 0) k 0 (omega (arith, past, length-replicate {A = ℕ} n 0))
]

-- zeros after numbers change no number
with_zeros : (xs : List ℕ) (n k : ℕ) → slice_index (xs ++ replicate n 0) k ≡ slice_index xs k
with_zeros xs n k = elim (cases_lt k (length xs)) [
  | inl below ↦ get_or_append_left xs (replicate n 0) 0 k below
  | inr past ↦ get_or-append_right xs (replicate n 0) (length xs) k 0 refl past ∙ zeros_alone n (k - length xs) ∙ sym (get_or_past xs k 0 past)
]

zero_of : (t u : Bool) → (not t && u) ≡ false → u ≡ true → t ≡ true
zero_of true u not_so so = refl
zero_of false u not_so so = absurd (false≢true (sym not_so ∙ so))

-- the direct numbers alone are all below the twelfth
few : (d : Dinode) (rest : List ℕ) (k : ℕ) → length d.direct ≡ 12 → k < 12 → slice_index d.direct k ≡ slice_index (d.direct ++ rest) k
few d rest k size below = sym (get_or_append_left d.direct rest 0 k (omega (arith, size, below)))

-- an inode without a pointer block has its direct numbers alone
without : (blocks : Blocks) (d : Dinode) (total : ℕ) → not (eqb (slice_index d.indirect 0) 0) && nat_lt (slice_index d.indirect 0) total ≡ false → slice_index d.indirect 0 < total
    → (k : ℕ) → slice_index d.direct k ≡ slice_index (numbers_of blocks d) k
without blocks d total not_so below k =
    let p = slice_index d.indirect 0 in
    let zeros : List ℕ = replicate 1024 0 in
    let none : eqb p 0 ≡ true = zero_of (eqb p 0) (nat_lt p total) not_so (lt-ltb p total below) in
    let rest : pointers_at blocks p ≡ zeros = ap (λ (b : Bool). if b then zeros else pointers_of (blocks p)) none in
    let all : numbers_of blocks d ≡ d.direct ++ zeros = ap (λ (xs : List ℕ). d.direct ++ xs) (append-nil (pointers_at blocks p) ∙ rest) in
    sym (ap (λ (xs : List ℕ). slice_index xs k) all ∙ with_zeros d.direct 1024 k)

-- where no pointer block is needed, the direct numbers are enough
pub direct_alone : (content : Option Image) (d : Dinode) (total count : ℕ) (numbers : List ℕ) → numbers ≡ d.direct → length d.direct ≡ 12 → needs_pointers total d count ≡ false
    → IfSome content (λ image. slice_index d.indirect 0 < total → (k : ℕ) → k < count → slice_index numbers k ≡ slice_index (numbers_of (block image) d) k)
direct_alone None d total count numbers same size not_so = tt
direct_alone (Some image) d total count numbers same size not_so = λ below k in_count.
    ap (λ (xs : List ℕ). slice_index xs k) same ∙ elim (cases_lt 12 count) [
      | inl more ↦
          without (block image) d total
          (ap (λ (b : Bool). b && (not (eqb (slice_index d.indirect 0) 0) && nat_lt (slice_index d.indirect 0) total)) (sym (lt-ltb 12 count more)) ∙ not_so) below k
      | inr at_most ↦ few d (flat_map (λ p. pointers_at (block image) p.block) (named_pointers d)) k size (omega (arith, in_count, at_most))
    ]

-- and where one is needed, both parts are
pub both_parts : (content : Option Image) (d : Dinode) (total count : ℕ) (numbers pointers : List ℕ) → numbers ≡ d.direct ++ pointers → needs_pointers total d count ≡ true
    → IfSome content (λ image. pointers ≡ pointers_of (block image (slice_index d.indirect 0)))
    → IfSome content (λ image. slice_index d.indirect 0 < total → (k : ℕ) → k < count → slice_index numbers k ≡ slice_index (numbers_of (block image) d) k)
both_parts None d total count numbers pointers same so read = tt
both_parts (Some image) d total count numbers pointers same so read = λ below k in_count.
    let p = slice_index d.indirect 0 in
    let there = and_parts (nat_lt 12 count) (not (eqb p 0) && nat_lt p total) so in
    let some : eqb p 0 ≡ false = not-true (eqb p 0) (and_parts (not (eqb p 0)) (nat_lt p total) there.1).0 in
    let rest : pointers_at (block image) p ≡ pointers_of (block image p) =
    ap (λ (b : Bool). if b then replicate 1024 0 else pointers_of (block image p)) some in
    let all : numbers_of (block image) d ≡ d.direct ++ pointers = ap (λ (xs : List ℕ). d.direct ++ xs) (append-nil (pointers_at (block image) p) ∙ rest ∙ sym read) in
    ap (λ (xs : List ℕ). slice_index xs k) (same ∙ sym all)

-- the numbers of a pointer block that was read
pub pointers_told : (content : Option Image) (number : ℕ) (bytes pointers : List ℕ) → IfSome content (λ image. bytes ≡ block image number) → pointers ≡ pointers_of bytes
    → IfSome content (λ image. pointers ≡ pointers_of (block image number))
pointers_told None number bytes pointers told read = tt
pointers_told (Some image) number bytes pointers told read = read ∙ ap (λ (xs : List ℕ). pointers_of xs) told
