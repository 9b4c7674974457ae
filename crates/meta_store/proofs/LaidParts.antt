-- A delta laid over the part of its block that it covers is laid over the block.
use Rattle.std.proofs.Common.{◌≡◌, ◌<◌, ◌≤◌, ◌⊎◌, inl, inr, ℕ, ◌+◌, ◌-◌, ◌*◌, ◌/◌, ◌%◌, leb, ltb, Bool, true, false, ◌&&◌, cond, List, [], ◌∷◌, ◌++◌, length, take, drop, slice_index, Option, Some, None, refl, sym, ap, ◌∙◌, arith, min, length-take, length-drop, length-append}
use Rattle.std.specs.Option.{unwrap_or}
use Rattle.std.specs.List.{last_or, cons_option}
use Rattle.std.proofs.lemmas.Bool.{cases_lt, lt-leb, le-ltb, le-leb, lt-ltb, and_left, and_right, and_from}
use Rattle.std.proofs.lemmas.List.{ext_get_or, get_or-take, get_or-drop, get_or_append_left, get_or-append_right}
use Rattle.std.proofs.lemmas.List.FromFn.{length-map-range_with_len, get_or-map-range_with_len}
use Rattle.lufs_base.specs.declared.delta.Delta.{Delta}
use Rattle.volume_model.specs.Log.{byte_of}
use Rattle.meta_store.specs.Laid.{given_in_block, laid_byte, laid_part, laid_block}
use Rattle.meta_store.proofs.LaidBlocks.{length-laid_block, laid_block_at}

pub length-laid_part : (d : Delta) (bytes : List ℕ) → length (laid_part d bytes) ≡ length bytes
unfolding laid_part
length-laid_part d bytes = length-map-range_with_len (λ i. unwrap_or (byte_of d i) (slice_index bytes i)) 0 (length bytes)

laid_part_at : (d : Delta) (bytes : List ℕ) (i : ℕ) → i < length bytes → slice_index (laid_part d bytes) i ≡ unwrap_or (byte_of d i) (slice_index bytes i)
unfolding laid_part
laid_part_at d bytes i below = get_or-map-range_with_len (λ i. unwrap_or (byte_of d i) (slice_index bytes i)) 0 (length bytes) i i 0 below (omega arith)

one_byte : (given : Option ℕ) (byte : ℕ) → unwrap_or (last_or None (cons_option given [])) byte ≡ unwrap_or given byte
one_byte None byte = refl
one_byte (Some x) byte = refl

covers : (home len place : ℕ) → home % 4096 ≤ place → place < home % 4096 + len → (leb home (4096 * (home / 4096) + place) && ltb (4096 * (home / 4096) + place) (home + len)) ≡ true
covers home len place low high =
    let at = 4096 * (home / 4096) + place in
    and_from (leb home at) (ltb at (home + len)) (le-leb home at (omega (arith, low))) (lt-ltb at (home + len) (omega (arith, high)))

covers_not : (home len place : ℕ) → (place < home % 4096) ⊎ (home % 4096 + len ≤ place) → (leb home (4096 * (home / 4096) + place) && ltb (4096 * (home / 4096) + place) (home + len)) ≡ false
covers_not home len place out =
    let at = 4096 * (home / 4096) + place in
    elim out [
      | inl before ↦ and_left (leb home at) (ltb at (home + len)) (lt-leb home at (omega (arith, before)))
      | inr behind ↦ and_right (leb home at) (ltb at (home + len)) (le-ltb at (home + len) (omega (arith, behind)))
    ]

pub inside : (d : Delta) (place byte : ℕ) → d.home % 4096 ≤ place → place < d.home % 4096 + d.len → laid_byte (d ∷ []) place byte ≡ unwrap_or (byte_of d (place - d.home % 4096)) byte
inside d place byte low high =
    let at = 4096 * (d.home / 4096) + place in
    let there : at - d.home ≡ place - d.home % 4096 = omega (arith, low) in
    one_byte (given_in_block place d) byte
    ∙ ap (λ (test : Bool). unwrap_or (cond test (byte_of d (at - d.home)) None) byte) (covers d.home d.len place low high)
    ∙ ap (λ (i : ℕ). unwrap_or (byte_of d i) byte) there

pub outside : (d : Delta) (place byte : ℕ) → (place < d.home % 4096) ⊎ (d.home % 4096 + d.len ≤ place) → laid_byte (d ∷ []) place byte ≡ byte
outside d place byte out =
    let at = 4096 * (d.home / 4096) + place in
    one_byte (given_in_block place d) byte
    ∙ ap (λ (test : Bool). unwrap_or (cond test (byte_of d (at - d.home)) None) byte) (covers_not d.home d.len place out)

-- the block whose part from `home` to `end` is laid over
pub part_laid : (d : Delta) (bytes : List ℕ) (home end : ℕ) → length bytes ≡ 4096 → home ≡ d.home % 4096 → end ≡ min 4096 (home + d.len)
    → take home bytes ++ (laid_part d (take (end - home) (drop home bytes)) ++ drop (end - home) (drop home bytes)) ≡ laid_block (d ∷ []) bytes
part_laid d bytes home end size home_is end_is =
    let low : home < 4096 = omega (arith, home_is) in
    let ends : home ≤ end = omega (arith, end_is, low) in
    let within : end ≤ 4096 = omega (arith, end_is) in
    let part : List ℕ = take (end - home) (drop home bytes) in
    let rest : List ℕ = drop (end - home) (drop home bytes) in
    let laid = laid_part d part in
    let all = take home bytes ++ (laid ++ rest) in
    let front_len : length (take home bytes) ≡ home = omega (arith, length-take home bytes, size, low) in
    let part_len : length part ≡ end - home = omega (arith, length-take (end - home) (drop home bytes), length-drop home bytes, size, within) in
    let laid_len : length laid ≡ end - home = length-laid_part d part ∙ part_len in
    let rest_len : length rest ≡ 4096 - end = omega (arith, length-drop (end - home) (drop home bytes), length-drop home bytes, size, within, ends) in
    let all_len : length all ≡ 4096 = omega (arith, length-append (take home bytes) (laid ++ rest), length-append laid rest, front_len, laid_len, rest_len, ends, within) in
    let block_len : length (laid_block (d ∷ []) bytes) ≡ 4096 = length-laid_block (d ∷ []) bytes ∙ size in
    ext_get_or 0 all (laid_block (d ∷ []) bytes) (all_len ∙ sym block_len) (λ i below.
    let small : i < 4096 = omega (arith, below, all_len) in
    let given = laid_block_at (d ∷ []) bytes i (omega (arith, small, size)) in
    elim (cases_lt i home) [
      | inl before ↦
          get_or_append_left (take home bytes) (laid ++ rest) 0 i (omega (arith, before, front_len))
          ∙ get_or-take home bytes i 0 before
          ∙ sym (given ∙ outside d i (slice_index bytes i) (inl (omega (arith, before, home_is))))
      | inr from ↦
          let j = i - home in
          let behind : slice_index all i ≡ slice_index (laid ++ rest) j = get_or-append_right (take home bytes) (laid ++ rest) home i 0 front_len from in
          elim (cases_lt i end) [
            | inl before ↦
                let short : j < end - home = omega (arith, before, from) in
                let read : slice_index part j ≡ slice_index bytes i = get_or-take (end - home) (drop home bytes) j 0 short ∙ get_or-drop home bytes j 0 ∙ ap (λ (n : ℕ). slice_index bytes n) (omega (arith, from)) in
                let same : j ≡ i - d.home % 4096 = omega (arith, home_is) in
                behind
                ∙ get_or_append_left laid rest 0 j (omega (arith, short, laid_len))
                ∙ laid_part_at d part j (omega (arith, short, part_len))
                ∙ ap (λ (byte : ℕ). unwrap_or (byte_of d j) byte) read
                ∙ ap (λ (n : ℕ). unwrap_or (byte_of d n) (slice_index bytes i)) same
                ∙ sym (given ∙ inside d i (slice_index bytes i) (omega (arith, from, home_is)) (omega (arith, before, end_is, home_is)))
            | inr past ↦
                behind
                ∙ get_or-append_right laid rest (end - home) j 0 laid_len (omega (arith, past, from, ends))
                ∙ get_or-drop (end - home) (drop home bytes) (j - (end - home)) 0
                ∙ get_or-drop home bytes (end - home + (j - (end - home))) 0
                ∙ ap (λ (n : ℕ). slice_index bytes n) (omega (arith, past, from, ends))
                ∙ sym (given ∙ outside d i (slice_index bytes i) (inr (omega (arith, past, end_is, home_is, small))))
          ]
    ])
