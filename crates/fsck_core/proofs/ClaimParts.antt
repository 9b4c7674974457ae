-- What is claimed in two parts, those that are settled first, is what is claimed in one.
use Rattle.std.proofs.Common.{◌≡◌, ℕ, ◌+◌, nat_le, Bool, true, false, ◌==◌, cond, if◌then◌else◌, List, [], ◌∷◌, ◌++◌, length, map, inl, inr, refl, sym, ap, ◌∙◌, arith, length-append}
use Rattle.std.specs.List.{flat_map, list_any, range_with_len}
use Rattle.std.proofs.lemmas.Bool.{cases_Bool}
use Rattle.std.proofs.lemmas.List.{map-append}
use Rattle.std.proofs.lemmas.List.Sums.{sum_by-append}
use Rattle.volume_model.specs.Sound.{Reading, claims_at}
use Rattle.lufs_base.specs.declared.geometry.Geometry.{Geometry}
use Rattle.fsck_core.specs.declared.claims.Claims.{Claims}
use Rattle.fsck_core.specs.Claimed.{times, HasClaimed}
use Rattle.fsck_core.specs.Inodes.{settled_in, blocks_at, settled_blocks, other_blocks}
use Rattle.fsck_core.proofs.FirstTwice.{find_alike, times-there, times-none}

-- a count over lists that are appended
record Counts (count : List ℕ → ℕ) : Type 0 where
  none : count [] ≡ 0
  both : (xs ys : List ℕ) → count (xs ++ ys) ≡ count xs + count ys

here_or_there : (count : List ℕ → ℕ) → Counts count → (test : Bool) (here : List ℕ) (a b n : ℕ) → a + b ≡ n
    → count (if test then here else []) + a + (count (if test then [] else here) + b) ≡ count here + n
here_or_there count counts true here a b n sum = let none = counts.none in omega (arith, none, sum)
here_or_there count counts false here a b n sum = let none = counts.none in omega (arith, none, sum)

parts : (count : List ℕ → ℕ) → Counts count → (test : ℕ → Bool) (f : ℕ → List ℕ) (ks : List ℕ)
    → count (flat_map (λ k. if test k then f k else []) ks) + count (flat_map (λ k. if test k then [] else f k) ks) ≡ count (flat_map f ks)
parts count counts test f [] = let none = counts.none in omega (arith, none)
parts count counts test f (k ∷ ks) =
    let first : ℕ → List ℕ = λ k. if test k then f k else [] in
    let second : ℕ → List ℕ = λ k. if test k then [] else f k in
    let rest = here_or_there count counts (test k) (f k) (count (flat_map first ks)) (count (flat_map second ks)) (count (flat_map f ks)) (parts count counts test f ks) in
    omega (arith, rest, counts.both (first k) (flat_map first ks), counts.both (second k) (flat_map second ks), counts.both (f k) (flat_map f ks))

in_parts : (count : List ℕ → ℕ) → Counts count → (test : ℕ → Bool) (f : ℕ → List ℕ) (ks : List ℕ)
    → count (flat_map (λ k. if test k then f k else []) ks ++ flat_map (λ k. if test k then [] else f k) ks) ≡ count (flat_map f ks)
in_parts count counts test f ks =
    counts.both (flat_map (λ k. if test k then f k else []) ks) (flat_map (λ k. if test k then [] else f k) ks) ∙ parts count counts test f ks

times_counts : (b : ℕ) → Counts (times b)
times_counts b = record { none = refl; both = λ xs ys. sum_by-append (λ c. cond (c == b) 1 0) xs ys }

length_counts : Counts (λ xs. length xs)
length_counts = record { none = refl; both = λ xs ys. length-append xs ys }

-- a block is there just where it is there once or more
there_alike : (b : ℕ) (xs ys : List ℕ) → times b xs ≡ times b ys → list_any (λ a. a == b) xs ≡ list_any (λ a. a == b) ys
there_alike b xs ys same = elim (cases_Bool (list_any (λ a. a == b) xs)) [
  | inl here ↦ elim (cases_Bool (list_any (λ a. a == b) ys)) [
    | inl there ↦ here ∙ sym there
    | inr none ↦ absurd (omega (arith, same, times-there b xs here, times-none b ys none))
  ]
  | inr none ↦ elim (cases_Bool (list_any (λ a. a == b) ys)) [
    | inl there ↦ absurd (omega (arith, same, times-none b xs none, times-there b ys there))
    | inr none_there ↦ none ∙ sym none_there
  ]
]

-- what was claimed, by how often each block was
claimed_alike : (total : ℕ) (xs ys : List ℕ) (c : Claims) → ((b : ℕ) → times b xs ≡ times b ys) → length xs ≡ length ys → HasClaimed total xs c → HasClaimed total ys c
claimed_alike total xs ys c same size has = record {
  room = has.room;
  each = λ b below. has.each b below ∙ there_alike b xs ys (same b);
  count = has.count ∙ size;
  twice = has.twice ∙ find_alike (λ b. nat_le 2 (times b ys)) (λ b. nat_le 2 (times b xs)) (range_with_len 0 total) (λ b. ap (nat_le 2) (same b));
}

blocks_of_all : (r : Reading) (ks : List ℕ) → flat_map (blocks_at r) ks ≡ map (λ claim. claim.block) (flat_map (claims_at r) ks)
blocks_of_all r [] = refl
blocks_of_all r (k ∷ ks) =
    ap (λ (l : List ℕ). blocks_at r k ++ l) (blocks_of_all r ks) ∙ sym (map-append (λ claim. claim.block) (claims_at r k) (flat_map (claims_at r) ks))

pub claimed_in_parts : (g : Geometry) (r : Reading) (n total : ℕ) (c : Claims) → HasClaimed total (settled_blocks g r n ++ other_blocks g r n) c
    → HasClaimed total (map (λ claim. claim.block) (flat_map (claims_at r) (range_with_len 0 n))) c
claimed_in_parts g r n total c has =
    let ks = range_with_len 0 n in
    let all = map (λ claim. claim.block) (flat_map (claims_at r) ks) in
    claimed_alike total (settled_blocks g r n ++ other_blocks g r n) all c
    (λ b. in_parts (times b) (times_counts b) (settled_in g r) (blocks_at r) ks ∙ ap (times b) (blocks_of_all r ks))
    (in_parts (λ xs. length xs) length_counts (settled_in g r) (blocks_at r) ks ∙ ap (λ (l : List ℕ). length l) (blocks_of_all r ks)) has
