-- Deltas laid over an image, one after the other.
use Rattle.std.proofs.Common.{◌≡◌, ◌<◌, ◌≤◌, inl, inr, ℕ, ◌+◌, ◌-◌, ◌*◌, ◌/◌, ◌%◌, eqb, Bool, true, false, not, ◌&&◌, cond, List, [], ◌∷◌, ◌++◌, length, take, drop, slice_index, Option, Some, None, refl, sym, ap, ◌∙◌, arith, length-take, length-drop, length-append}
use Rattle.std.specs.Option.{unwrap_or}
use Rattle.std.specs.List.{filter_map, last_or, cons_option}
use Rattle.std.proofs.lemmas.Bool.{cases_lt, cases_Bool, and_left, and_right, eq-eqb, ne_eqb}
use Rattle.std.proofs.lemmas.List.{append-nil, drop_all, take_all, ext_get_or, get_or-take, get_or-drop, get_or_append_left, get_or-append_right}
use Rattle.std.proofs.lemmas.List.Elements.{filter_map-append, filter-append}
use Rattle.lufs_base.specs.declared.delta.Delta.{Delta}
use Rattle.volume_model.specs.Format.{Image}
use Rattle.volume_model.specs.Log.{is_cancel, byte_of, lays_on}
use Rattle.meta_store.specs.LaidSize.{length-laid_over}
use Rattle.meta_store.specs.Laid.{given_in_block, laid_byte, laid_block, laid_over}
use Rattle.meta_store.specs.Changes.{deltas_on}
use Rattle.meta_store.proofs.LaidBlocks.{length-laid_block, laid_block_at, laid_over_at}
use Rattle.meta_store.proofs.LogLaid.{cancel_gives_none, none_or_none}

last_laid : (o : Option ℕ) (given : List ℕ) (byte : ℕ) → unwrap_or (last_or o given) byte ≡ unwrap_or (last_or None given) (unwrap_or o byte)
last_laid o [] byte = refl
last_laid o (x ∷ given) byte = last_laid (Some x) given byte ∙ sym (last_laid (Some x) given (unwrap_or o byte))

last_of_both : (o : Option ℕ) (given more : List ℕ) (byte : ℕ) → unwrap_or (last_or o (given ++ more)) byte ≡ unwrap_or (last_or None more) (unwrap_or (last_or o given) byte)
last_of_both o [] more byte = last_laid o more byte
last_of_both o (x ∷ given) more byte = last_of_both (Some x) given more byte

-- more deltas are laid over what the first ones left
pub laid_byte_append : (deltas more : List Delta) (place byte : ℕ) → laid_byte (deltas ++ more) place byte ≡ laid_byte more place (laid_byte deltas place byte)
laid_byte_append deltas more place byte =
    ap (λ (l : List ℕ). unwrap_or (last_or None l) byte) (filter_map-append (given_in_block place) deltas more)
    ∙ last_of_both None (filter_map (given_in_block place) deltas) (filter_map (given_in_block place) more) byte

pub nothing_over : (image : Image) → laid_over (deltas_on []) image ≡ image
nothing_over image =
    ext_get_or 0 (laid_over (deltas_on []) image) image (length-laid_over (deltas_on []) image) (λ i below.
    laid_over_at (deltas_on []) image i (omega (arith, below, length-laid_over (deltas_on []) image)))

pub laid_over_append : (deltas more : List Delta) (image : Image) → laid_over (deltas_on more) (laid_over (deltas_on deltas) image) ≡ laid_over (deltas_on (deltas ++ more)) image
laid_over_append deltas more image =
    let first = laid_over (deltas_on deltas) image in
    let size = length-laid_over (deltas_on deltas) image in
    let both = length-laid_over (deltas_on more) first in
    let all = length-laid_over (deltas_on (deltas ++ more)) image in
    ext_get_or 0 (laid_over (deltas_on more) first) (laid_over (deltas_on (deltas ++ more)) image) (both ∙ size ∙ sym all) (λ i below.
    let b = i / 4096 in
    let place = i % 4096 in
    let inside : i < length first = omega (arith, below, both) in
    let within : i < length image = omega (arith, inside, size) in
    laid_over_at (deltas_on more) first i inside
    ∙ ap (λ (x : ℕ). laid_byte (deltas_on more b) place x) (laid_over_at (deltas_on deltas) image i within)
    ∙ sym (laid_byte_append (deltas_on deltas b) (deltas_on more b) place (slice_index image i))
    ∙ ap (λ (l : List Delta). laid_byte l place (slice_index image i)) (sym (filter-append (lays_on b) deltas more))
    ∙ sym (laid_over_at (deltas_on (deltas ++ more)) image i within))

-- a cancel lays nothing
cancel_lays_nothing : (d : Delta) (place byte : ℕ) → is_cancel d.kind ≡ true → laid_byte (d ∷ []) place byte ≡ byte
cancel_lays_nothing d place byte cancel =
    let at = 4096 * (d.home / 4096) + place in
    ap (λ (o : Option ℕ). unwrap_or (last_or None (cons_option o [])) byte)
    (let none : given_in_block place d ≡ None = none_or_none _ (byte_of d (at - d.home)) (cancel_gives_none d (at - d.home) d.kind cancel) in none)

-- one delta over its own block
pub one_here : (d : Delta) (b place byte : ℕ) → d.home / 4096 ≡ b → laid_byte (deltas_on (d ∷ []) b) place byte ≡ laid_byte (d ∷ []) place byte
one_here d b place byte here = elim (cases_Bool (is_cancel d.kind)) [
  | inl cancel ↦
      ap (λ (test : Bool). laid_byte (cond (eqb (d.home / 4096) b && not test) (d ∷ []) []) place byte) cancel
      ∙ ap (λ (test : Bool). laid_byte (cond test (d ∷ []) []) place byte) (and_right (eqb (d.home / 4096) b) false refl)
      ∙ sym (cancel_lays_nothing d place byte cancel)
  | inr lays ↦
      ap (λ (test : Bool). laid_byte (cond (eqb (d.home / 4096) b && not test) (d ∷ []) []) place byte) lays
      ∙ ap (λ (test : Bool). laid_byte (cond (test && true) (d ∷ []) []) place byte) (eq-eqb (d.home / 4096) b here)
]

-- over any other block
pub one_elsewhere : (d : Delta) (b place byte : ℕ) → (d.home / 4096 ≡ b → ⊥) → laid_byte (deltas_on (d ∷ []) b) place byte ≡ byte
one_elsewhere d b place byte other =
    ap (λ (test : Bool). laid_byte (cond test (d ∷ []) []) place byte) (and_left (eqb (d.home / 4096) b) (not (is_cancel d.kind)) (ne_eqb (d.home / 4096) b other))

-- a delta laid over the part of the image that is its block
pub block_laid : (d : Delta) (image : Image) (at n : ℕ) (part : List ℕ) → at ≡ 4096 * (d.home / 4096) → n ≡ 4096 → at + 4096 ≤ length image
    → part ≡ laid_block (d ∷ []) (take n (drop at image)) → take at image ++ (part ++ drop n (drop at image)) ≡ laid_over (deltas_on (d ∷ [])) image
block_laid d image at n part its_block size inside is =
    let own : List ℕ = take n (drop at image) in
    let rest : List ℕ = drop n (drop at image) in
    let left = length-drop at image in
    let own_size : length own ≡ 4096 = omega (arith, size, left, inside, length-take n (drop at image)) in
    let part_size : length part ≡ 4096 = ap (λ (l : List ℕ). length l) is ∙ length-laid_block (d ∷ []) own ∙ own_size in
    let front : length (take at image) ≡ at = omega (arith, inside, length-take at image) in
    let all = length-laid_over (deltas_on (d ∷ [])) image in
    ext_get_or 0 (take at image ++ (part ++ rest)) (laid_over (deltas_on (d ∷ [])) image)
    (omega (arith, all, front, part_size, size, left, inside, length-append (take at image) (part ++ rest), length-append part rest, length-drop n (drop at image))) (λ i below.
    let within : i < length image =
    omega (arith, below, front, part_size, size, left, inside, length-append (take at image) (part ++ rest), length-append part rest, length-drop n (drop at image)) in
    elim (cases_lt i at) [
      | inl before ↦
          get_or_append_left (take at image) (part ++ rest) 0 i (omega (arith, before, front))
          ∙ get_or-take at image i 0 before
          ∙ sym (laid_over_at (deltas_on (d ∷ [])) image i within ∙ one_elsewhere d (i / 4096) (i % 4096) (slice_index image i) (λ same. omega (arith, same, before, its_block)))
      | inr from ↦ elim (cases_lt i (at + 4096)) [
        | inl low ↦
            let place = i - at in
            let same_place : place ≡ i % 4096 = omega (arith, from, low, its_block) in
            get_or-append_right (take at image) (part ++ rest) at i 0 front from
            ∙ get_or_append_left part rest 0 place (omega (arith, part_size, from, low))
            ∙ ap (λ (l : List ℕ). slice_index l place) is
            ∙ laid_block_at (d ∷ []) own place (omega (arith, own_size, from, low))
            ∙ ap (λ (x : ℕ). laid_byte (d ∷ []) place x)
            (get_or-take n (drop at image) place 0 (omega (arith, size, from, low)) ∙ get_or-drop at image place 0 ∙ ap (λ (k : ℕ). slice_index image k) (let back : at + place ≡ i = omega (arith, from) in back))
            ∙ ap (λ (k : ℕ). laid_byte (d ∷ []) k (slice_index image i)) same_place
            ∙ sym (laid_over_at (deltas_on (d ∷ [])) image i within ∙ one_here d (i / 4096) (i % 4096) (slice_index image i) (omega (arith, from, low, its_block)))
        | inr past ↦
            get_or-append_right (take at image) (part ++ rest) at i 0 front from
            ∙ get_or-append_right part rest 4096 (i - at) 0 part_size (omega (arith, past))
            ∙ get_or-drop n (drop at image) (i - at - 4096) 0
            ∙ get_or-drop at image (n + (i - at - 4096)) 0
            ∙ ap (λ (k : ℕ). slice_index image k) (let back : at + (n + (i - at - 4096)) ≡ i = omega (arith, past, size) in back)
            ∙ sym (laid_over_at (deltas_on (d ∷ [])) image i within ∙ one_elsewhere d (i / 4096) (i % 4096) (slice_index image i) (λ same. omega (arith, same, past, its_block)))
      ]
    ])

-- what a slice of a whole Vec leaves of it
pub whole_written : (new old : List ℕ) (n : ℕ) → length new ≡ length old → n ≡ length old → take n (new ++ drop (length new) old) ≡ new
whole_written new old n size count =
    ap (λ (l : List ℕ). take n (new ++ l)) (drop_all (length new) old (omega (arith, size)))
    ∙ ap (λ (l : List ℕ). take n l) (append-nil new)
    ∙ take_all n new (omega (arith, size, count))
