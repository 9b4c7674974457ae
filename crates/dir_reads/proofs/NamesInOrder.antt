-- Names that are put among others, of which the first are kept.
use Rattle.std.proofs.Common.{◌≡◌, ◌≤◌, inl, inr, ℕ, zero, suc, ◌+◌, ◌-◌, eqb, Bool, true, false, not, ◌&&◌, ◌||◌, cond, List, [], ◌∷◌, ◌++◌, length, map, take, unwrap_or, Option, Some, None, IfSome, refl, sym, ap, subst, ◌∙◌, arith}
use Rattle.std.specs.Prelude.{nat_lt}
use Rattle.std.specs.List.{filter, insert, position, position_or_len}
use Rattle.std.specs.declared.cmp.Ordering.TheVariants.{Less, Equal, Greater}
use Rattle.std.specs.Ordering.{is_lt, nat_cmp, ordering_then}
use Rattle.std.specs.Cmp.Lexicographic.{slice_cmp}
use Rattle.std.proofs.lemmas.Bool.{cases_lt, lt-ltb, le-ltb}
use Rattle.std.proofs.lemmas.List.{map-append, length-take}
use Rattle.std.proofs.lemmas.List.Elements.{filter-append}
use Rattle.volume_model.specs.declared.directory.Slot.{Slot}
use Rattle.volume_model.specs.Format.{Image, block}
use Rattle.volume_model.specs.Sound.{chunk_at}
use Rattle.history_model.specs.Names.{is_before, put_in_order, in_order}
use Rattle.dir_reads.specs.Chunks.{chunks_from, chunks_of, slots_in}
use Rattle.dir_reads.specs.declared.chunk_list.Opened.{Opened}
use Rattle.dir_reads.proofs.ChunksTold.{from_here}
use Rattle.dir_reads.specs.Names.{is_entry, comes_after, is_told, names_in, PutsBefore, first_names}

-- the order of names is that of slices of bytes
pub before_is : (name other : List ℕ) → is_lt (slice_cmp nat_cmp name other) ≡ is_before name other
before_is [] [] = refl
before_is [] (y ∷ ys) = refl
before_is (x ∷ xs) [] = refl
before_is (x ∷ xs) (y ∷ ys) =
    elim (nat_lt x y) as (λ b. is_lt (ordering_then (cond b Less (cond (eqb x y) Equal Greater)) (slice_cmp nat_cmp xs ys)) ≡ (b || (eqb x y && is_before xs ys))) [
      | true ↦ refl
      | false ↦ elim (eqb x y) as (λ b. is_lt (ordering_then (cond b Equal Greater) (slice_cmp nat_cmp xs ys)) ≡ (b && is_before xs ys)) [
        | true ↦ before_is xs ys
        | false ↦ refl
      ]
    ]

-- fewer of the first of some
take_fewer : {X : Type 0} (m : ℕ) (xs : List X) → take m (take (suc m) xs) ≡ take m xs
take_fewer zero xs = refl
take_fewer (suc m) [] = refl
take_fewer (suc m) (x ∷ xs) = ap (λ l. x ∷ l) (take_fewer m xs)

one_less : {X : Type 0} (m : ℕ) (x : X) (xs : List X) → take m (x ∷ xs) ≡ take m (x ∷ take m xs)
one_less zero x xs = refl
one_less (suc m) x xs = ap (λ l. x ∷ l) (sym (take_fewer m xs))

-- a name put among the first of some names
put_among : (most : ℕ) (name : List ℕ) (names : List (List ℕ)) → take most (put_in_order name names) ≡ take most (put_in_order name (take most names))
put_among zero name names = refl
put_among (suc m) name [] = refl
put_among (suc m) name (other ∷ names) =
    elim (is_before name other) as (λ b. take (suc m) (elim b [ true ↦ name ∷ (other ∷ names) | false ↦ other ∷ put_in_order name names ])
    ≡ take (suc m) (elim b [ true ↦ name ∷ (other ∷ take m names) | false ↦ other ∷ put_in_order name (take m names) ])) [
      | true ↦ ap (λ l. name ∷ l) (one_less m other names)
      | false ↦ ap (λ l. other ∷ l) (put_among m name names)
    ]

-- where a name is put
pub put_at : (name : List ℕ) (names : List (List ℕ)) → put_in_order name names ≡ insert names (position_or_len (is_before name) names) name
put_at name [] = refl
put_at name (other ∷ names) =
    let k = position_or_len (is_before name) names in
    elim (is_before name other) as (λ b. (elim b [ true ↦ name ∷ (other ∷ names) | false ↦ other ∷ put_in_order name names ]) ≡ insert (other ∷ names) (cond (not b) (1 + k) 0) name) [
      | true ↦ refl
      | false ↦
          let next : 1 + k ≡ suc k = omega arith in
          ap (λ l. other ∷ l) (put_at name names) ∙ sym (ap (λ (n : ℕ). insert (other ∷ names) n name) next)
    ]

-- where none comes after it, it is put at the end
pub place_or_end : (name : List ℕ) (names : List (List ℕ)) → unwrap_or (position (is_before name) names) (length names) ≡ position_or_len (is_before name) names
place_or_end name names = elim (cases_lt (position_or_len (is_before name) names) (length names)) [
  | inl there ↦ ap (λ (b : Bool). unwrap_or (cond b (Some (position_or_len (is_before name) names)) None) (length names)) (lt-ltb _ _ there)
  | inr past ↦
      ap (λ (b : Bool). unwrap_or (cond b (Some (position_or_len (is_before name) names)) None) (length names)) (le-ltb _ _ past)
      ∙ end_is (is_before name) names past
]
  where
    end_is : (p : List ℕ → Bool) (xs : List (List ℕ)) → length xs ≤ position_or_len p xs → length xs ≡ position_or_len p xs
    end_is p [] past = refl
    end_is p (x ∷ xs) past = elim (p x) as (λ b. length (x ∷ xs) ≤ cond (not b) (1 + position_or_len p xs) 0 → length (x ∷ xs) ≡ cond (not b) (1 + position_or_len p xs) 0) [
      | true ↦ λ most. absurd (omega (arith, most))
      | false ↦ λ most. let rest = end_is p xs (omega (arith, most)) in omega (arith, rest)
    ] past

-- the names of one slot more
slot_more : (after : Option (List ℕ)) (s : Slot) (slots : List Slot) → names_in after (s ∷ slots) ≡ (cond (is_told after s) (s.name ∷ names_in after slots) (names_in after slots))
slot_more after s slots =
    elim (is_entry s) as (λ b. filter (comes_after after) (map (λ (t : Slot). t.name) (cond b (s ∷ filter is_entry slots) (filter is_entry slots)))
    ≡ cond (b && comes_after after s.name) (s.name ∷ names_in after slots) (names_in after slots)) [ true ↦ refl | false ↦ refl ]

-- one slot more before those that were put
pub slot_put : (after : Option (List ℕ)) (s : Slot) (done : List Slot) (most : ℕ) (old mid new : List (List ℕ)) → is_told after s ≡ true
    → PutsBefore (names_in after done) most old mid → new ≡ take most (put_in_order s.name mid) → PutsBefore (names_in after (s ∷ done)) most old new
slot_put after s done most old mid new so before put = λ others was.
    put ∙ ap (λ (l : List (List ℕ)). take most (put_in_order s.name l)) (before others was)
    ∙ sym (put_among most s.name (in_order (names_in after done ++ others)))
    ∙ sym (ap (λ (l : List (List ℕ)). take most (in_order (l ++ others))) (slot_more after s done ∙ ap (λ (b : Bool). cond b (s.name ∷ names_in after done) (names_in after done)) so))

pub slot_left_out : (after : Option (List ℕ)) (s : Slot) (done : List Slot) (most : ℕ) (old new : List (List ℕ)) → is_told after s ≡ false
    → PutsBefore (names_in after done) most old new → PutsBefore (names_in after (s ∷ done)) most old new
slot_left_out after s done most old new not_so before = λ others was.
    before others was
    ∙ sym (ap (λ (l : List (List ℕ)). take most (in_order (l ++ others))) (slot_more after s done ∙ ap (λ (b : Bool). cond b (s.name ∷ names_in after done) (names_in after done)) not_so))

-- the names of some slots, and of those that follow
pub names_append : (after : Option (List ℕ)) (xs ys : List Slot) → names_in after (xs ++ ys) ≡ names_in after xs ++ names_in after ys
names_append after xs ys =
    ap (λ (l : List Slot). filter (comes_after after) (map (λ (s : Slot). s.name) l)) (filter-append is_entry xs ys)
    ∙ ap (filter (comes_after after)) (map-append (λ (s : Slot). s.name) (filter is_entry xs) (filter is_entry ys))
    ∙ filter-append (comes_after after) (map (λ (s : Slot). s.name) (filter is_entry xs)) (map (λ (s : Slot). s.name) (filter is_entry ys))

-- one name more than are told shows whether more follow
pub first_told : (most : ℕ) (names first told : List (List ℕ)) (more : Bool) → first ≡ take (most + 1) names → told ≡ take most first → more ≡ nat_lt most (length first)
    → ◌≡◌ {A = List (List ℕ) × Bool} (told, more) (first_names most names)
first_told most names first told more read cut test =
    let here : told ≡ take most names = cut ∙ ap (take most) read ∙ fewer most names in
    let flag : more ≡ nat_lt most (length names) = test ∙ ap (λ (l : List (List ℕ)). nat_lt most (length l)) read ∙ enough most names in
    λ t. (here t, flag t)
  where
    fewer : (m : ℕ) (xs : List (List ℕ)) → take m (take (m + 1) xs) ≡ take m xs
    fewer m xs = ap (λ (n : ℕ). take m (take n xs)) (let next : m + 1 ≡ suc m = omega arith in next) ∙ take_fewer m xs

    enough : (m : ℕ) (xs : List (List ℕ)) → nat_lt m (length (take (m + 1) xs)) ≡ nat_lt m (length xs)
    enough m xs = elim (cases_lt m (length xs)) [
      | inl more ↦ lt-ltb m _ (omega (arith, more, length-take (m + 1) xs)) ∙ sym (lt-ltb m _ more)
      | inr few ↦ le-ltb m _ (omega (arith, few, length-take (m + 1) xs)) ∙ sym (le-ltb m _ few)
    ]

-- the first names of the chunks from one on
abbrev pub FirstFrom : Option Image → (numbers : List ℕ) → (n k : ℕ) → (after : Option (List ℕ)) → (most : ℕ) → List (List ℕ) → Type 0
FirstFrom content numbers n k after most names =
    IfSome content (λ image. names ≡ take most (in_order (names_in after (slots_in (chunks_from (block image) numbers k (n - k))))))

pub first_of_none : (content : Option Image) (numbers : List ℕ) (n : ℕ) (after : Option (List ℕ)) (most : ℕ) (names : List (List ℕ)) → names ≡ [] → FirstFrom content numbers n n after most names
first_of_none None numbers n after most names none = tt
first_of_none (Some image) numbers n after most names none =
    let past : n - n ≡ 0 = omega arith in
    none ∙ sym (ap (λ (m : ℕ). take most (in_order (names_in after (slots_in (chunks_from (block image) numbers n m))))) past ∙ nothing most)
  where
    nothing : (m : ℕ) → take {A = List ℕ} m [] ≡ []
    nothing zero = refl
    nothing (suc m) = refl

pub first_more : (content now : Option Image) (numbers : List ℕ) (n k m : ℕ) (after : Option (List ℕ)) (most : ℕ) (chunk : Option (List Slot)) (old new : List (List ℕ)) → now ≡ content
    → k + 1 ≡ m → m ≤ n → IfSome now (λ image. chunk ≡ chunk_at (block image) numbers k) → PutsBefore (names_in after (unwrap_or chunk [])) most old new
    → FirstFrom content numbers n m after most old → FirstFrom content numbers n k after most new
first_more None now numbers n k m after most chunk old new same next within told puts first = tt
first_more (Some image) now numbers n k m after most chunk old new same next within told puts first =
    let blocks = block image in
    let here : chunk ≡ chunk_at blocks numbers k = rw same at told in
    let rest = slots_in (chunks_from blocks numbers (k + 1) (n - (k + 1))) in
    let begins : old ≡ take most (in_order (names_in after rest)) = subst (λ (j : ℕ). old ≡ take most (in_order (names_in after (slots_in (chunks_from blocks numbers j (n - j)))))) (sym next) first in
    puts (names_in after rest) begins
    ∙ ap (λ (l : List (List ℕ)). take most (in_order l)) (sym (names_append after (unwrap_or chunk []) rest))
    ∙ ap (λ (o : Option (List Slot)). take most (in_order (names_in after (unwrap_or o [] ++ rest)))) here
    ∙ sym (ap (λ (l : List (List Slot)). take most (in_order (names_in after (slots_in l)))) (from_here blocks numbers k n (omega (arith, next, within))))

pub first_in_all : (content : Option Image) (numbers : List ℕ) (n k : ℕ) (after : Option (List ℕ)) (most : ℕ) (names : List (List ℕ)) → k ≤ 0 → FirstFrom content numbers n k after most names
    → IfSome content (λ image. names ≡ take most (in_order (names_in after (slots_in (chunks_from (block image) numbers 0 n)))))
first_in_all None numbers n k after most names end first = tt
first_in_all (Some image) numbers n k after most names end first =
    let zero_is : k ≡ 0 = omega (arith, end) in
    let all : n - 0 ≡ n = omega arith in
    first ∙ ap (λ (j : ℕ). take most (in_order (names_in after (slots_in (chunks_from (block image) numbers j (n - j)))))) zero_is
    ∙ ap (λ (m : ℕ). take most (in_order (names_in after (slots_in (chunks_from (block image) numbers 0 m))))) all

-- a list of the first names of an opened directory
pub list_read : (now : Option Image) (opened : Opened) (after : Option (List ℕ)) (most : ℕ) (first told : List (List ℕ)) (more : Bool) → told ≡ take most first → more ≡ nat_lt most (length first)
    → IfSome now (λ image. first ≡ take (most + 1) (in_order (names_in after (slots_in (chunks_of (block image) opened)))))
    → IfSome now (λ image. ◌≡◌ {A = List (List ℕ) × Bool} (told, more) (first_names most (in_order (names_in after (slots_in (chunks_of (block image) opened))))))
list_read None opened after most first told more cut test read = tt
list_read (Some image) opened after most first told more cut test read =
    first_told most (in_order (names_in after (slots_in (chunks_of (block image) opened)))) first told more read cut test
