-- The sectors of the ring, one more at a time.
use Rattle.std.proofs.Common.{◌≡◌, ℕ, ◌+◌, ◌-◌, ◌<◌, ◌≤◌, Bool, true, false, List, [], ◌∷◌, ◌++◌, length, take, drop, get_or, sym, ap, subst, ◌∙◌, arith, length-drop}
use Rattle.std.specs.List.{prefix_len}
use Rattle.std.proofs.lemmas.List.{length-take-le, get_or-drop, take_more, flat_map_more}
use Rattle.std.proofs.lemmas.List.FromFn.{length-map-range_with_len, get_or-map-range_with_len}
use Rattle.std.proofs.lemmas.List.Sums.{prefix_len-le-length, prefix_len-drop_yes, prefix_len-drop_no, prefix_len-drop_all}
use Rattle.volume_model.specs.Format.{sector, sectors_of, sectors_in}
use Rattle.volume_model.specs.Log.{belongs_to, row_of, payload_of}

pub length-sectors_in : (bytes : List ℕ) → length (sectors_in bytes) ≡ sectors_of bytes
length-sectors_in bytes = length-map-range_with_len (sector bytes) 0 (sectors_of bytes)

pub get_or-sectors_in : (bytes : List ℕ) (i : ℕ) (d : List ℕ) → i < sectors_of bytes → get_or (sectors_in bytes) i d ≡ sector bytes i
get_or-sectors_in bytes i d below = get_or-map-range_with_len (sector bytes) 0 (sectors_of bytes) i i d below (omega arith)

pub length-row_of : (epoch tid : ℕ) (ring : List (List ℕ)) → length (row_of epoch tid ring) ≡ prefix_len (belongs_to epoch tid) ring
length-row_of epoch tid ring = length-take-le (prefix_len (belongs_to epoch tid) ring) ring (prefix_len-le-length (belongs_to epoch tid) ring)

-- how far a row from `at` on goes, where all sectors before `i` are in it
abbrev pub row_from : (epoch tid at : ℕ) → List ℕ → ℕ
row_from epoch tid at bytes = prefix_len (belongs_to epoch tid) (drop at (sectors_in bytes))

test_at : (epoch tid i : ℕ) (bytes s : List ℕ) (b : Bool) → i < sectors_of bytes → s ≡ sector bytes i → belongs_to epoch tid s ≡ b → belongs_to epoch tid (get_or (sectors_in bytes) i []) ≡ b
test_at epoch tid i bytes s b below is test = ap (λ (x : List ℕ). belongs_to epoch tid x) (get_or-sectors_in bytes i [] below ∙ sym is) ∙ test

inside : (i : ℕ) (bytes : List ℕ) → i < sectors_of bytes → i < length (sectors_in bytes)
inside i bytes below = subst (λ (n : ℕ). i < n) (sym (length-sectors_in bytes)) below

pub row_goes_on : (epoch tid at i : ℕ) (bytes s : List ℕ) → at ≤ i → i < sectors_of bytes → s ≡ sector bytes i → belongs_to epoch tid s ≡ true
    → row_from epoch tid at bytes ≡ i - at + row_from epoch tid i bytes → row_from epoch tid at bytes ≡ i + 1 - at + row_from epoch tid (i + 1) bytes
row_goes_on epoch tid at i bytes s low below is test so_far =
    omega (arith, so_far, prefix_len-drop_yes (belongs_to epoch tid) (sectors_in bytes) i [] (inside i bytes below) (test_at epoch tid i bytes s true below is test))

pub row_stops : (epoch tid at i : ℕ) (bytes s : List ℕ) → i < sectors_of bytes → s ≡ sector bytes i → belongs_to epoch tid s ≡ false
    → row_from epoch tid at bytes ≡ i - at + row_from epoch tid i bytes → i - at ≡ length (row_of epoch tid (drop at (sectors_in bytes)))
row_stops epoch tid at i bytes s below is test so_far =
    omega (arith, so_far, length-row_of epoch tid (drop at (sectors_in bytes)), prefix_len-drop_no (belongs_to epoch tid) (sectors_in bytes) i [] (inside i bytes below) (test_at epoch tid i bytes s false below is test))

pub row_ends : (epoch tid at i : ℕ) (bytes : List ℕ) → sectors_of bytes ≤ i
    → row_from epoch tid at bytes ≡ i - at + row_from epoch tid i bytes → i - at ≡ length (row_of epoch tid (drop at (sectors_in bytes)))
row_ends epoch tid at i bytes past so_far =
    omega (arith, so_far, length-row_of epoch tid (drop at (sectors_in bytes)), prefix_len-drop_all (belongs_to epoch tid) (sectors_in bytes) i (subst (λ (n : ℕ). n ≤ i) (sym (length-sectors_in bytes)) past))

-- the payload of one sector more
pub payload_more : (at i : ℕ) (bytes joined carried : List ℕ) → at ≤ i → i < sectors_of bytes → carried ≡ take 504 (sector bytes i)
    → joined ≡ payload_of (take (i - at) (drop at (sectors_in bytes))) → joined ++ carried ≡ payload_of (take (i + 1 - at) (drop at (sectors_in bytes)))
payload_more at i bytes joined carried low below is so_far =
    let size : length (drop at (sectors_in bytes)) ≡ length (sectors_in bytes) - at = length-drop at (sectors_in bytes) in
    let count : length (sectors_in bytes) ≡ sectors_of bytes = length-sectors_in bytes in
    let place : at + (i - at) ≡ i = omega arith in
    let next : i - at + 1 ≡ i + 1 - at = omega arith in
    let found : get_or (drop at (sectors_in bytes)) (i - at) [] ≡ sector bytes i =
    get_or-drop at (sectors_in bytes) (i - at) [] ∙ ap (λ (k : ℕ). get_or (sectors_in bytes) k []) place ∙ get_or-sectors_in bytes i [] below in
    ap (λ (xs : List ℕ). xs ++ carried) so_far
    ∙ ap (λ (xs : List ℕ). payload_of (take (i - at) (drop at (sectors_in bytes))) ++ xs) is
    ∙ flat_map_more (λ (x : List ℕ). take 504 x) [] (take (i - at) (drop at (sectors_in bytes))) (sector bytes i)
    ∙ ap (λ (x : List ℕ). payload_of (take (i - at) (drop at (sectors_in bytes)) ++ x ∷ [])) (sym found)
    ∙ ap payload_of (sym (take_more (drop at (sectors_in bytes)) (i - at) [] (omega arith)))
    ∙ ap (λ (n : ℕ). payload_of (take n (drop at (sectors_in bytes)))) next
