-- What a PlainStore tells after each of its changes.
use Rattle.std.proofs.Common.{rules, ◌≡◌, ◌<◌, ◌≤◌, ℕ, ◌+◌, ◌*◌, ◌/◌, ◌%◌, eqb, Bool, true, false, not, ◌&&◌, ◌||◌, List, [], ◌∷◌, ◌++◌, length, take, drop, map, zero, suc, refl, sym, ap, ◌∙◌, inl, inr, arith}
use Rattle.std.specs.Prelude.{All, nat_lt, slice_set, slice_index_or}
use Rattle.std.specs.List.{list_any, filter}
use Rattle.std.proofs.lemmas.Bool.{cases_Bool, false≢true, true≢false, and_parts, eqb-true, ltb-true, or_cases, both_ways}
use Rattle.std.proofs.lemmas.List.Elements.{All-head, All-tail, All-weaker}
use Rattle.std.proofs.lemmas.List.Folds.{list_any-append}
use Rattle.lufs_base.specs.Fields.{put_at}
use Rattle.lufs_base.specs.Layout.{IsGeometry, group_start, blocks_of, region_of}
use Rattle.lufs_base.specs.declared.geometry.Geometry.{Geometry}
use Rattle.lufs_base.specs.declared.delta.Delta.{Delta}
use Rattle.lufs_base.specs.declared.delta.DeltaKind.{DeltaKind}
use Rattle.lufs_base.specs.declared.numbers.BlockNo.{BlockNo}
use Rattle.volume_model.specs.Format.{Image, block, is_body, is_body_region}
use Rattle.volume_model.specs.Crash.{image_after}
use Rattle.meta_store.specs.declared.change.RawWrite.{RawWrite}
use Rattle.volume_model.specs.Log.{may_be_logged, is_home_of, is_part_of_block}
use Rattle.volume_model.specs.Sound.{reading_of, block_bit, is_among}
use Rattle.meta_store.specs.declared.change.Change.{Change}
use Rattle.meta_store.specs.Merged.{all_merged}
use Rattle.meta_store.specs.Store.{plain_told}
use Rattle.meta_store.specs.Changing.{AllTold, all_told}
use Rattle.meta_store.specs.Changes.{writes_of, changed, numbers_in, with_part, amended, Applies, Fills, Amends}
use Rattle.meta_store.specs.Conditions.{IsInBlock, MayApply, MayAmend}
use Rattle.meta_store.specs.Plain.{is_free, plain_changing}
use Rattle.meta_store.proofs.LogLaid.{logged_within}
use Rattle.meta_store.proofs.PutBytes.{length-put_at, block_put, put_elsewhere}
use Rattle.meta_store.proofs.FreeBlocks.{in_a_group, same_bits, same_free, group_is_no_body}

abbrev pub told_of : Geometry → Image → List Delta → (taken freed : List ℕ) → AllTold
told_of g image held taken freed = all_told (plain_told g image) (plain_changing g image held taken freed)

pub any_of_map : {X Y : Type 0} (p : Y → Bool) (f : X → Y) (xs : List X) → list_any p (map f xs) ≡ list_any (λ x. p (f x)) xs
any_of_map p f [] = refl
any_of_map p f (x ∷ xs) = ap (λ (rest : Bool). p (f x) || rest) (any_of_map p f xs)

-- what is among the numbers that pass a test
among_filtered : (b : ℕ) (p : ℕ → Bool) (numbers : List ℕ) → is_among b (filter p numbers) ≡ (is_among b numbers && p b)
among_filtered b p [] = refl
among_filtered b p (n ∷ numbers) =
    let rest = among_filtered b p numbers in
    elim (cases_Bool (eqb n b)) [
      | inl here ↦
          let same : p n ≡ p b = ap p (eqb-true n b here) in
          elim (cases_Bool (p n)) [
            | inl kept ↦ search (rules, here, kept, rest, same)
            | inr gone ↦ search (rules, here, gone, rest, same)
          ]
      | inr other ↦ elim (cases_Bool (p n)) [
        | inl kept ↦ search (rules, other, kept, rest)
        | inr gone ↦ search (rules, other, gone, rest)
      ]
    ]

-- what is among numbers that all pass a test passes it
among_all : (p : ℕ → Bool) (b : ℕ) (blocks : List BlockNo) → All (λ x. p x.0 ≡ true) blocks → is_among b (numbers_in blocks) ≡ true → p b ≡ true
among_all p b [] all is = absurd (false≢true is)
among_all p b (x ∷ blocks) all is = elim (or_cases (eqb x.0 b) (is_among b (numbers_in blocks)) is) [
  | inl here ↦ sym (ap p (eqb-true x.0 b here)) ∙ All-head (λ x. p x.0 ≡ true) x blocks all
  | inr there ↦ among_all p b blocks (All-tail (λ x. p x.0 ≡ true) x blocks all) there
]

still_free : (before after taken : Bool) → (not before && after) ≡ taken → (before && not after) ≡ false → not after ≡ (not before && not taken)
still_free true true taken set cleared = refl
still_free true false taken set cleared = absurd (true≢false cleared)
still_free false true taken set cleared = rw (sym set) refl
still_free false false taken set cleared = rw (sym set) refl

free_again : (before after returned : Bool) → (not before && after) ≡ false → (before && not after) ≡ returned → not after ≡ (not before || returned)
free_again true true returned set cleared = cleared
free_again true false returned set cleared = cleared
free_again false true returned set cleared = absurd (true≢false set)
free_again false false returned set cleared = refl

-- Block b was filled.
pub filled : (g : Geometry) (image new : Image) (held : List Delta) (taken freed : List ℕ) (b at : ℕ) (bytes : List ℕ) → IsGeometry g → 4096 * blocks_of g ≤ length image → b < blocks_of g
    → length bytes ≡ 4096 → is_body g b ≡ true → at ≡ 4096 * b → new ≡ put_at image at bytes → Fills b bytes (told_of g image held taken freed) (told_of g new held taken freed)
filled g image new held taken freed b at bytes ok whole inside size body place is =
    let its_block : at / 4096 ≡ b = omega (arith, place) in
    let its_start : at % 4096 ≡ 0 = omega (arith, place) in
    let fits : at % 4096 + length bytes ≤ 4096 = omega (arith, its_start, size) in
    let room : 4096 * (at / 4096) + 4096 ≤ length image = omega (arith, its_block, whole, inside) in
    record {
      geometry = refl;
      content = record {
        tells = refl;
        blocks = λ c below known.
            ap (λ (i : Image). block i c) is
            ∙ block_put image at bytes c fits room
            ∙ ap (λ (k : ℕ). with_part (block image) k (at % 4096) bytes c) its_block
            ∙ ap (λ (k : ℕ). with_part (block image) b k bytes c) its_start;
      };
      changing = record {
        released = same_free g ok image new (λ n below.
            ap (λ (i : Image). take 416 (block i (group_start g n))) is
            ∙ ap (λ (l : List ℕ). take 416 l) (put_elsewhere image at bytes (group_start g n) fits room (λ same. group_is_no_body g ok n b below body (same ∙ its_block))));
        held = refl;
        taken = λ c. refl;
        freed = λ c. refl;
        room = refl;
      };
    }

-- A change was applied.
pub applied : (g : Geometry) (image new : Image) (held new_held : List Delta) (taken new_taken freed new_freed : List ℕ) (change : Change) → IsGeometry g
    → MayApply change (told_of g image held taken freed) → new ≡ changed change image → new_held ≡ all_merged held change.deltas → new_taken ≡ taken ++ change.taken
    → new_freed ≡ freed ++ map (λ f. f.block.0) change.freed → Applies change (told_of g image held taken freed) (told_of g new new_held new_taken new_freed)
applied g image new held new_held taken new_taken freed new_freed change ok may is held_is taken_is freed_is =
    record {
      geometry = refl;
      content = record { tells = refl; blocks = λ b below known. ap (λ (i : Image). block i b) is };
      held = held_is;
      taken = λ b. ap (is_among b) taken_is ∙ list_any-append (λ m. eqb m b) taken change.taken;
      freed = λ b.
          ap (is_among b) freed_is
          ∙ list_any-append (λ m. eqb m b) freed (map (λ f. f.block.0) change.freed)
          ∙ ap (λ (rest : Bool). is_among b freed || rest) (any_of_map (λ m. eqb m b) (λ f. f.block.0) change.freed);
      released = λ b kept.
          ap (λ (i : Image). is_free g i b) is
          ∙ elim (cases_Bool (is_body g b)) [
            | inl body ↦
                let before = block_bit g (reading_of g (block image)) b in
                let after = block_bit g (reading_of g (block (changed change image))) b in
                let bits = may.content.bits in
                ap (λ (test : Bool). test && not after) body
                ∙ still_free before after (is_among b change.taken) (bits.set b body) (bits.cleared b body ∙ kept)
                ∙ ap (λ (test : Bool). (test && not before) && not (is_among b change.taken)) (sym body)
            | inr none ↦
                ap (λ (test : Bool). test && not (block_bit g (reading_of g (block (changed change image))) b)) none
                ∙ ap (λ (test : Bool). (test && not (block_bit g (reading_of g (block image)) b)) && not (is_among b change.taken)) (sym none)
          ];
      room = refl;
    }

-- A delta that may be logged lies in a block of the volume.
pub logged_inside : (g : Geometry) (kind : DeltaKind) (home len : ℕ) → may_be_logged g kind home len ≡ true → home / 4096 < blocks_of g
unfolding may_be_logged
logged_inside g kind home len is =
    let front = (and_parts (nat_lt (home / 4096) (blocks_of g) && is_home_of kind (region_of g (home / 4096))) (is_part_of_block kind (home % 4096) len) is).0 in
    ltb-true (home / 4096) (blocks_of g) (and_parts (nat_lt (home / 4096) (blocks_of g)) (is_home_of kind (region_of g (home / 4096))) front).0

-- a raw write in a block of the volume lies in the image
pub raw_fits : (g : Geometry) (image : Image) (w : RawWrite) → 4096 * blocks_of g ≤ length image → IsInBlock g w → 512 * w.first + length w.bytes ≤ length image
raw_fits g image w whole in_block =
    let inside : w.first / 8 < blocks_of g = ltb-true (w.first / 8) (blocks_of g) (and_parts (nat_lt (w.first / 8) (blocks_of g)) (is_body_region (region_of g (w.first / 8))) in_block.body).0 in
    omega (arith, inside, whole, in_block.inside)

pub raw_size : (image : Image) (raw : List RawWrite) → All (λ w. 512 * w.first + length w.bytes ≤ length image) raw → length (image_after image (writes_of raw)) ≡ length image
raw_size image [] fits = refl
raw_size image (w ∷ raw) fits =
    let first = All-head (λ v. 512 * v.first + length v.bytes ≤ length image) w raw fits in
    let size = length-put_at image (512 * w.first) w.bytes first in
    raw_size (put_at image (512 * w.first) w.bytes) raw
    (All-weaker (λ v. 512 * v.first + length v.bytes ≤ length image) (λ v. 512 * v.first + length v.bytes ≤ length (put_at image (512 * w.first) w.bytes)) (λ v fit. omega (arith, fit, size))
    raw (All-tail (λ v. 512 * v.first + length v.bytes ≤ length image) w raw fits))
    ∙ size

-- A group record was put in the place of the held one.
pub amends : (g : Geometry) (image new : Image) (held new_held : List Delta) (taken new_taken freed : List ℕ) (home : ℕ) (bytes : List ℕ) (returned : List BlockNo) → IsGeometry g
    → 4096 * blocks_of g ≤ length image → MayAmend home bytes returned (told_of g image held taken freed) → new ≡ put_at image home bytes → new_held ≡ map (amended home bytes) held
    → new_taken ≡ filter (λ b. not (is_among b (numbers_in returned))) taken → Amends home bytes returned (told_of g image held taken freed) (told_of g new new_held new_taken freed)
amends g image new held new_held taken new_taken freed home bytes returned ok whole may is held_is taken_is =
    let fits : home % 4096 + length bytes ≤ 4096 = logged_within g _ home (length bytes) may.place in
    let inside = logged_inside g _ home (length bytes) may.place in
    let room : 4096 * (home / 4096) + 4096 ≤ length image = omega (arith, whole, inside) in
    let each : (b : ℕ) → block new b ≡ with_part (block image) (home / 4096) (home % 4096) bytes b = λ b. ap (λ (i : Image). block i b) is ∙ block_put image home bytes b fits room in
    record {
      geometry = refl;
      content = record { tells = refl; blocks = λ b below known. each b };
      held = held_is;
      taken = λ b. ap (is_among b) taken_is ∙ among_filtered b (λ n. not (is_among n (numbers_in returned))) taken;
      freed = λ b. refl;
      released = λ b. elim (cases_Bool (is_body g b)) [
        | inl body ↦
            let before = block_bit g (reading_of g (block image)) b in
            let after = block_bit g (reading_of g (block new)) b in
            let amended_bit = block_bit g (reading_of g (with_part (block image) (home / 4096) (home % 4096) bytes)) b in
            let same : after ≡ amended_bit =
            same_bits g (with_part (block image) (home / 4096) (home % 4096) bytes) (block new) (λ n below. ap (λ (l : List ℕ). take 416 l) (each (group_start g n))) b (in_a_group g ok b body) in
            ap (λ (test : Bool). test && not after) body
            ∙ ap (λ (bit : Bool). not bit) same
            ∙ free_again before amended_bit (is_among b (numbers_in returned)) (may.bits.set b body) (may.bits.cleared b body)
            ∙ ap (λ (test : Bool). (test && not before) || is_among b (numbers_in returned)) (sym body)
        | inr none ↦
            let not_returned : is_among b (numbers_in returned) ≡ false = elim (cases_Bool (is_among b (numbers_in returned))) [
              | inl is_one ↦ absurd (both_ways (is_body g b) none (among_all (is_body g) b returned may.body is_one))
              | inr none_is ↦ none_is
            ] in
            ap (λ (test : Bool). test && not (block_bit g (reading_of g (block new)) b)) none
            ∙ sym not_returned
            ∙ ap (λ (test : Bool). (test && not (block_bit g (reading_of g (block image)) b)) || is_among b (numbers_in returned)) (sym none)
      ];
      room = refl;
      disk = refl;
    }

set_next : (f : Delta → Delta) (d : Delta) (old : List Delta) (i : ℕ) → i < length old
    → slice_set (map f (take i old) ++ drop i old) i (f (slice_index_or (map f (take i old) ++ drop i old) i d)) ≡ map f (take (suc i) old) ++ drop (suc i) old
set_next f d [] i inside = absurd (omega (arith, inside))
set_next f d (y ∷ old) zero inside = refl
set_next f d (y ∷ old) (suc i) inside = ap (λ (l : List Delta). f y ∷ l) (set_next f d old i (omega (arith, inside)))

-- one more of a list is changed in its place
pub changed_next : (f : Delta → Delta) (d x : Delta) (old now : List Delta) (i : ℕ) → i < length old → now ≡ map f (take i old) ++ drop i old → x ≡ f (slice_index_or now i d)
    → slice_set now i x ≡ map f (take (i + 1) old) ++ drop (i + 1) old
changed_next f d x old now i inside is put =
    ap (slice_set now i) put
    ∙ ap (λ (l : List Delta). slice_set l i (f (slice_index_or l i d))) is
    ∙ set_next f d old i inside
    ∙ ap (λ (n : ℕ). map f (take n old) ++ drop n old) (let more : suc i ≡ i + 1 = omega arith in more)
