-- What the tables say once the slots of one more directory are entered.
use Rattle.std.proofs.Common.{◌≡◌, ◌≢◌, ◌<◌, ◌≤◌, ℕ, ◌+◌, ◌==◌, min, Bool, not, cond, List, [], ◌∷◌, ◌++◌, length, map, slice_index, slice_index_or, slice_set, Option, Some, None, slice_get, refl, sym, ap, inl, inr, ◌∙◌, arith}
use Rattle.std.proofs.lemmas.Bool.{cases_Bool, cases_eq, eqb-true, eqb-false, cond-true, cond-false}
use Rattle.std.proofs.lemmas.List.{length-set, get_or-set_same, get_or-set_other, append_assoc, append-nil, map-id}
use Rattle.std.proofs.lemmas.List.Concat.{flat_map-append}
use Rattle.std.proofs.lemmas.List.FromFn.{map-range_with_len_more}
use Rattle.std.proofs.lemmas.List.Sums.{sum_by-cons, sum_by_push}
use Rattle.std.specs.List.{filter, flat_map, count_by, sum_by, fold, range_with_len}
use Rattle.std.specs.Option.{option_map_or}
use Rattle.volume_model.specs.declared.directory.Slot.{Slot}
use Rattle.volume_model.specs.Sound.{Names, slots_at, names_at, entries_at, parent_at, namers_of, links_to}
use Rattle.fsck_core.specs.declared.names.Namer.{Namer}
use Rattle.fsck_core.specs.declared.names.Namer.TheVariants.{Nobody}
use Rattle.fsck_core.specs.declared.names.NameTables.{NameTables}
use Rattle.fsck_core.specs.NameTables.{namer_in, with_namer, is_dot, most_links, with_parent, with_link, with_name, HasSizes, HasNames}

abbrev is_used : Slot → Bool
is_used s = not (s.ino == 0)

abbrev names : ℕ → Slot → Bool
names j s = s.ino == j

abbrev one_if : Bool → ℕ
one_if b = cond b 1 0

-- the slots in use that name inode j
abbrev links_among : ℕ → List Slot → ℕ
links_among j slots = count_by (names j) (filter is_used slots)

-- directory i for each of the slots that names inode j, but not those of the names `.` and `..`
abbrev namers_among : ℕ → ℕ → List Slot → List ℕ
namers_among i j slots = map (λ s. i) (filter (names j) (filter (λ s. not (is_dot s)) (filter is_used slots)))

length-with_link : (links : List ℕ) (s : Slot) → length (with_link links s) ≡ length links
length-with_link links s = elim (cases_Bool (s.ino == 0)) [
  | inl unused ↦ ap length (cond-true (s.ino == 0) links _ unused)
  | inr used ↦ ap length (cond-false (s.ino == 0) links _ used) ∙ length-set links s.ino _
]

length-links : (slots : List Slot) (links : List ℕ) → length (fold with_link links slots) ≡ length links
length-links [] links = refl
length-links (s ∷ slots) links = length-links slots (with_link links s) ∙ length-with_link links s

length-with_name : (i : ℕ) (namers : List Namer) (s : Slot) → length (with_name i namers s) ≡ length namers
length-with_name i namers s = elim (cases_Bool (s.ino == 0)) [
  | inl unused ↦ ap length (cond-true (s.ino == 0) namers _ unused)
  | inr used ↦ ap length (cond-false (s.ino == 0) namers _ used) ∙ elim (cases_Bool (is_dot s)) [
    | inl dot ↦ ap length (cond-true (is_dot s) namers _ dot)
    | inr other ↦ ap length (cond-false (is_dot s) namers _ other) ∙ length-set namers s.ino _
  ]
]

length-namers : (i : ℕ) (slots : List Slot) (namers : List Namer) → length (fold (with_name i) namers slots) ≡ length namers
length-namers i [] namers = refl
length-namers i (s ∷ slots) namers = length-namers i slots (with_name i namers s) ∙ length-with_name i namers s

-- the number of the inode that the slot names, one more time
abbrev counted : List ℕ → Slot → List ℕ
counted links s = slice_set links s.ino (min (slice_index links s.ino + 1) most_links)

counted_at : (links : List ℕ) (s : Slot) (j : ℕ) → j < length links → slice_index links j ≤ most_links → slice_index (counted links s) j ≡ min (slice_index links j + one_if (names j s)) most_links
counted_at links s j inside small = elim (cases_Bool (names j s)) [
  | inl here ↦
      let is : s.ino ≡ j = eqb-true s.ino j here in
      let at = get_or-set_same links s.ino (min (slice_index links s.ino + 1) most_links) 0 (omega arith) in
      let set_there = ap (slice_index (counted links s)) (sym is) ∙ at ∙ ap (λ (k : ℕ). min (slice_index links k + 1) most_links) is in
      let one : one_if (names j s) ≡ 1 = ap one_if here in
      omega (arith, set_there, one)
  | inr elsewhere ↦
      let apart = eqb-false s.ino j elsewhere in
      let kept = get_or-set_other links s.ino j (min (slice_index links s.ino + 1) most_links) 0 (λ e. apart (sym e)) in
      let none : one_if (names j s) ≡ 0 = ap one_if elsewhere in
      omega (arith, kept, none)
]

links_after : (slots : List Slot) (links : List ℕ) (j : ℕ) → j < length links → slice_index links j ≤ most_links → slice_index (fold with_link links slots) j ≡ min (slice_index links j + links_among j slots) most_links
links_after [] links j inside small = omega arith
links_after (s ∷ slots) links j inside small = elim (cases_Bool (s.ino == 0)) [
  | inl unused ↦ rw unused (links_after slots links j inside small)
  | inr used ↦
      let at = counted_at links s j inside small in
      let rest = links_after slots (counted links s) j (omega (arith, length-set links s.ino (min (slice_index links s.ino + 1) most_links))) (omega (arith, at)) in
      let count = sum_by-cons (λ (x : Slot). one_if (names j x)) s (filter is_used slots) in
      rw used (omega (arith, at, rest, count))
]

with_more : (js : List ℕ) (i : ℕ) → with_namer (namer_in js) i ≡ namer_in (js ++ i ∷ [])
with_more [] i = refl
with_more (j ∷ []) i = refl
with_more (j ∷ (k ∷ js)) i = refl

-- directory i names the inode that the slot names
abbrev named : ℕ → List Namer → Slot → List Namer
named i namers s = slice_set namers s.ino (with_namer (slice_index_or namers s.ino Nobody) i)

namers_after : (i : ℕ) (slots : List Slot) (namers : List Namer) (j : ℕ) (js : List ℕ) → j < length namers → slice_index_or namers j Nobody ≡ namer_in js
    → slice_index_or (fold (with_name i) namers slots) j Nobody ≡ namer_in (js ++ namers_among i j slots)
namers_after i [] namers j js inside is = is ∙ ap namer_in (sym (append-nil js))
namers_after i (s ∷ slots) namers j js inside is = elim (cases_Bool (s.ino == 0)) [
  | inl unused ↦ rw unused (namers_after i slots namers j js inside is)
  | inr used ↦ elim (cases_Bool (is_dot s)) [
    | inl dot ↦ rw (used, dot) (namers_after i slots namers j js inside is)
    | inr other ↦
        let new = with_namer (slice_index_or namers s.ino Nobody) i in
        let size : j < length (named i namers s) = omega (arith, length-set namers s.ino new) in
        elim (cases_Bool (s.ino == j)) [
          | inl here ↦
              let same : s.ino ≡ j = eqb-true s.ino j here in
              let at : slice_index_or (named i namers s) j Nobody ≡ namer_in (js ++ i ∷ []) =
              ap (λ (k : ℕ). slice_index_or (named i namers s) k Nobody) (sym same) ∙ get_or-set_same namers s.ino new Nobody (omega arith)
              ∙ ap (λ (k : ℕ). with_namer (slice_index_or namers k Nobody) i) same ∙ ap (λ (x : Namer). with_namer x i) is ∙ with_more js i in
              rw (used, other, here) (namers_after i slots (named i namers s) j (js ++ i ∷ []) size at ∙ ap namer_in (append_assoc js (i ∷ []) (namers_among i j slots)))
          | inr elsewhere ↦
              let apart = eqb-false s.ino j elsewhere in
              let at : slice_index_or (named i namers s) j Nobody ≡ namer_in js = get_or-set_other namers s.ino j new Nobody (λ e. apart (sym e)) ∙ is in
              rw (used, other, elsewhere) (namers_after i slots (named i namers s) j js size at)
        ]
  ]
]

range_more : (i : ℕ) → range_with_len 0 (i + 1) ≡ range_with_len 0 i ++ i ∷ []
range_more i = sym (map-id (range_with_len 0 (i + 1))) ∙ map-range_with_len_more (λ (k : ℕ). k) 0 i i (omega arith) ∙ ap (λ (ks : List ℕ). ks ++ i ∷ []) (map-id (range_with_len 0 i))

links_more : (m : Names) (i j : ℕ) (slots : List Slot) → slots_at m i ≡ slots → links_to (i + 1) m j ≡ links_to i m j + links_among j slots
links_more m i j slots is =
    ap (sum_by (λ k. count_by (names j) (names_at m k))) (range_more i) ∙ sum_by_push (λ k. count_by (names j) (names_at m k)) (range_with_len 0 i) i
    ∙ ap (λ (ss : List Slot). links_to i m j + links_among j ss) is

namers_more : (m : Names) (i j : ℕ) (slots : List Slot) → slots_at m i ≡ slots → namers_of (i + 1) m j ≡ namers_of i m j ++ namers_among i j slots
namers_more m i j slots is =
    let namers : ℕ → List ℕ = λ k. map (λ s. k) (filter (names j) (entries_at m k)) in
    ap (flat_map namers) (range_more i) ∙ flat_map-append namers (range_with_len 0 i) (i ∷ [])
    ∙ ap (λ (js : List ℕ). namers_of i m j ++ js) (append-nil (namers i) ∙ ap (namers_among i j) is)

length-with_parent : (i : ℕ) (second : Option Slot) (parents : List ℕ) → length (option_map_or (λ s. slice_set parents i s.ino) second parents) ≡ length parents
length-with_parent i None parents = refl
length-with_parent i (Some s) parents = length-set parents i s.ino

parent_here : (i : ℕ) (second : Option Slot) (parents : List ℕ) → i < length parents → slice_index parents i ≡ 0
    → slice_index (option_map_or (λ s. slice_set parents i s.ino) second parents) i ≡ option_map_or (λ s. s.ino) second 0
parent_here i None parents inside none = none
parent_here i (Some s) parents inside none = get_or-set_same parents i s.ino 0 inside

parent_elsewhere : (i : ℕ) (second : Option Slot) (parents : List ℕ) (k : ℕ) → k ≢ i → slice_index (option_map_or (λ s. slice_set parents i s.ino) second parents) k ≡ slice_index parents k
parent_elsewhere i None parents k apart = refl
parent_elsewhere i (Some s) parents k apart = get_or-set_other parents i k s.ino 0 apart

-- the tables before and after the slots of directory i
pub record Entered (i : ℕ) (slots : List Slot) (t u : NameTables) : Type 0 where
  pub links : u.links.items ≡ fold with_link t.links.items slots
  pub namers : u.namers.items ≡ fold (with_name i) t.namers.items slots
  pub parents : u.parents.items ≡ with_parent i slots t.parents.items

pub sizes_kept : (n i : ℕ) (slots : List Slot) (t u : NameTables) → Entered i slots t u → HasSizes n t → HasSizes n u
sizes_kept n i slots t u are sizes = record {
  links = ap length are.links ∙ length-links slots t.links.items ∙ sizes.links;
  namers = ap length are.namers ∙ length-namers i slots t.namers.items ∙ sizes.namers;
  parents = ap length are.parents ∙ length-with_parent i (slice_get slots 1) t.parents.items ∙ sizes.parents;
}

pub names_more : (n i : ℕ) (m : Names) (slots : List Slot) (t u : NameTables) → i < n → slots_at m i ≡ slots → Entered i slots t u → HasNames n i m t → HasNames n (i + 1) m u
names_more n i m slots t u inside is are has =
    let sizes = has.sizes in
    record {
      sizes = sizes_kept n i slots t u are sizes;
      links = λ j below.
          let before = has.links j below in
          let after = links_after slots t.links.items j (omega (arith, sizes.links)) (omega (arith, before)) in
          ap (λ (links : List ℕ). slice_index links j) are.links ∙ (omega (arith, before, after, links_more m i j slots is));
      namers = λ j below.
          ap (λ (namers : List Namer). slice_index_or namers j Nobody) are.namers
          ∙ namers_after i slots t.namers.items j (namers_of i m j) (omega (arith, sizes.namers)) (has.namers j below) ∙ ap namer_in (sym (namers_more m i j slots is));
      parents = λ j below. ap (λ (parents : List ℕ). slice_index parents j) are.parents ∙ elim (cases_eq j i) [
        | inl same ↦
            let here = parent_here i (slice_get slots 1) t.parents.items (omega (arith, sizes.parents)) (has.unseen i (omega arith) inside) in
            ap (slice_index (with_parent i slots t.parents.items)) same ∙ here ∙ ap (λ (ss : List Slot). option_map_or (λ s. s.ino) (slice_get ss 1) 0) (sym is) ∙ ap (parent_at m) (sym same)
        | inr apart ↦ parent_elsewhere i (slice_get slots 1) t.parents.items j apart ∙ has.parents j (omega arith)
      ];
      unseen = λ j above below. ap (λ (parents : List ℕ). slice_index parents j) are.parents ∙ parent_elsewhere i (slice_get slots 1) t.parents.items j (λ e. absurd (omega arith)) ∙ has.unseen j (omega arith) below;
    }

-- An inode without slots changes nothing.
pub names_stay : (n i : ℕ) (m : Names) (t : NameTables) → HasNames n i m t → slots_at m i ≡ [] → i < n → HasNames n (i + 1) m t
names_stay n i m t has none inside = names_more n i m [] t t inside none (record { links = refl; namers = refl; parents = refl }) has
