-- The row of a transaction in the ring, one sector more at a time.
use Rattle.std.proofs.Common.{◌≡◌, ℕ, ◌+◌, ◌-◌, ◌<◌, ◌≤◌, Bool, true, false, ltb, ◌&&◌, List, [], ◌∷◌, ◌++◌, length, take, drop, get_or, inl, inr, refl, sym, ap, ◌∙◌, arith, length-drop}
use Rattle.std.specs.List.{prefix_len}
use Rattle.std.proofs.Math.Seq.{take-add}
use Rattle.std.proofs.lemmas.Bool.{cases_lt, and_parts, and_from, lt-ltb, cases_Bool, false≢true}
use Rattle.std.proofs.lemmas.List.{drop-drop, get_or-drop, take_more, flat_map_more}
use Rattle.std.proofs.lemmas.List.Concat.{flat_map-append}
use Rattle.std.proofs.lemmas.List.Sums.{prefix_len-drop_yes, prefix_len-drop_no, prefix_len-drop_all}
use Rattle.volume_model.specs.Log.{belongs_to, row_of, payload_of}
use Rattle.log_scan.proofs.RingSteps.{length-row_of}

-- how far the row from `at` on goes, where all sectors before `i` are in it
abbrev pub IsRowPart : (epoch tid at i : ℕ) → List (List ℕ) → Type 0
IsRowPart epoch tid at i ring = prefix_len (belongs_to epoch tid) (drop at ring) ≡ i - at + prefix_len (belongs_to epoch tid) (drop i ring)

-- what the sectors of the row up to sector i carry
abbrev pub carried_to : (at i : ℕ) → List (List ℕ) → List ℕ
carried_to at i ring = payload_of (take (i - at) (drop at ring))

pub part_none : (epoch tid at : ℕ) (ring : List (List ℕ)) → IsRowPart epoch tid at at ring
part_none epoch tid at ring = omega arith

pub part_more : (epoch tid at i : ℕ) (ring : List (List ℕ)) → at ≤ i → i < length ring → belongs_to epoch tid (get_or ring i []) ≡ true
    → IsRowPart epoch tid at i ring → IsRowPart epoch tid at (i + 1) ring
part_more epoch tid at i ring low inside is so_far = omega (arith, so_far, prefix_len-drop_yes (belongs_to epoch tid) ring i [] inside is)

pub part_ends : (epoch tid at i : ℕ) (ring : List (List ℕ)) → (ltb i (length ring) && belongs_to epoch tid (get_or ring i [])) ≡ false
    → IsRowPart epoch tid at i ring → i - at ≡ length (row_of epoch tid (drop at ring))
part_ends epoch tid at i ring none so_far =
    let no_more : prefix_len (belongs_to epoch tid) (drop i ring) ≡ 0 = elim (cases_lt i (length ring)) [
      | inr past ↦ prefix_len-drop_all (belongs_to epoch tid) ring i past
      | inl below ↦ elim (cases_Bool (belongs_to epoch tid (get_or ring i []))) [
        | inl is ↦ absurd (false≢true (sym none ∙ and_from _ _ (lt-ltb i (length ring) below) is))
        | inr other ↦ prefix_len-drop_no (belongs_to epoch tid) ring i [] below other
      ]
    ] in
    omega (arith, so_far, no_more, length-row_of epoch tid (drop at ring))

pub carried_none : (at : ℕ) (ring : List (List ℕ)) → carried_to at at ring ≡ []
carried_none at ring = let none : at - at ≡ 0 = omega arith in ap (λ (n : ℕ). payload_of (take n (drop at ring))) none

pub carried_more : (at i : ℕ) (ring : List (List ℕ)) (joined carried : List ℕ) → at ≤ i → i < length ring → carried ≡ take 504 (get_or ring i [])
    → joined ≡ carried_to at i ring → joined ++ carried ≡ carried_to at (i + 1) ring
carried_more at i ring joined carried low inside is so_far =
    let size : length (drop at ring) ≡ length ring - at = length-drop at ring in
    let place : at + (i - at) ≡ i = omega arith in
    let next : i - at + 1 ≡ i + 1 - at = omega arith in
    let found : get_or (drop at ring) (i - at) [] ≡ get_or ring i [] =
    get_or-drop at ring (i - at) [] ∙ ap (λ (k : ℕ). get_or ring k []) place in
    ap (λ (xs : List ℕ). xs ++ carried) so_far
    ∙ ap (λ (xs : List ℕ). carried_to at i ring ++ xs) is
    ∙ flat_map_more (λ (x : List ℕ). take 504 x) [] (take (i - at) (drop at ring)) (get_or ring i [])
    ∙ ap (λ (x : List ℕ). payload_of (take (i - at) (drop at ring) ++ x ∷ [])) (sym found)
    ∙ ap payload_of (sym (take_more (drop at ring) (i - at) [] (omega arith)))
    ∙ ap (λ (n : ℕ). payload_of (take n (drop at ring))) next

-- what the whole row carries begins with that
pub row_begins : (epoch tid at i : ℕ) (ring : List (List ℕ)) → at ≤ i → IsRowPart epoch tid at i ring
    → payload_of (row_of epoch tid (drop at ring)) ≡ carried_to at i ring ++ payload_of (take (prefix_len (belongs_to epoch tid) (drop i ring)) (drop i ring))
row_begins epoch tid at i ring low part =
    let more : ℕ = prefix_len (belongs_to epoch tid) (drop i ring) in
    let place : at + (i - at) ≡ i = omega arith in
    ap (λ (n : ℕ). payload_of (take n (drop at ring))) part
    ∙ ap payload_of (take-add (i - at) more (drop at ring))
    ∙ flat_map-append (λ (s : List ℕ). take 504 s) (take (i - at) (drop at ring)) (take more (drop (i - at) (drop at ring)))
    ∙ ap (λ (l : List (List ℕ)). carried_to at i ring ++ payload_of (take more l)) (drop-drop (i - at) at ring ∙ ap (λ (n : ℕ). drop n ring) place)
