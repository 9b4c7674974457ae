-- The rules on names, by how many slots there are of each kind.
use Rattle.std.proofs.Common.{◌≡◌, ◌≤◌, ◌<◌, ℕ, zero, suc, ◌+◌, ◌==◌, Bool, true, false, not, ◌||◌, cond, List, [], ◌∷◌, ◌++◌, length, map, refl, sym, ap, inl, inr, ◌∙◌, arith, sum_by, bytes_eq}
use Rattle.std.proofs.lemmas.Bool.{cases_Bool, or_parts, or_from, true≢false}
use Rattle.std.proofs.lemmas.Slice.Eq.{bytes_eq-Decides}
use Rattle.std.proofs.lemmas.List.Sums.{sum_by-cons, length-filter}
use Rattle.std.specs.List.{list_any, filter, flat_map, count_by, range_with_len}
use Rattle.volume_model.specs.declared.directory.Slot.{Slot}
use Rattle.volume_model.specs.Sound.{dot, dot_dot, has_twice}
use Rattle.history_rules.proofs.EnterLaws.{slot_sum}

abbrev pub one_if : Bool → ℕ
one_if b = cond b 1 0

module _ {X : Type 0} where
  pub filtered_sum : (q : X → Bool) (f : X → ℕ) (xs : List X) → sum_by f (filter q xs) ≡ sum_by (λ x. cond (q x) (f x) 0) xs
  filtered_sum q f [] = refl
  filtered_sum q f (x ∷ xs) =
      let more = filtered_sum q f xs in
      let at = sum_by-cons (λ (y : X). cond (q y) (f y) 0) x xs in
      elim (cases_Bool (q x)) [
        | inl holds ↦
            let e : sum_by f (filter q (x ∷ xs)) ≡ sum_by f (x ∷ filter q xs) = ap (λ (b : Bool). sum_by f (cond b (x ∷ filter q xs) (filter q xs))) holds in
            let here : cond (q x) (f x) 0 ≡ f x = ap (λ (b : Bool). cond b (f x) 0) holds in
            omega (arith, e, here, sum_by-cons f x (filter q xs), at, more)
        | inr fails ↦
            let e : sum_by f (filter q (x ∷ xs)) ≡ sum_by f (filter q xs) = ap (λ (b : Bool). sum_by f (cond b (x ∷ filter q xs) (filter q xs))) fails in
            let here : cond (q x) (f x) 0 ≡ 0 = ap (λ (b : Bool). cond b (f x) 0) fails in
            omega (arith, e, here, at, more)
      ]

  pub sum_none : (f : X → ℕ) → ((x : X) → f x ≡ 0) → (xs : List X) → sum_by f xs ≡ 0
  sum_none f none [] = refl
  sum_none f none (x ∷ xs) = omega (arith, sum_by-cons f x xs, none x, sum_none f none xs)

  pub any_none : (p : X → Bool) (xs : List X) → list_any p xs ≡ false → count_by p xs ≡ 0
  any_none p [] is = refl
  any_none p (x ∷ xs) is =
      let parts = or_parts (p x) (list_any p xs) is in
      let here : one_if (p x) ≡ 0 = ap one_if parts.0 in
      omega (arith, sum_by-cons (λ (y : X). one_if (p y)) x xs, here, any_none p xs parts.1)

  pub none_any : (p : X → Bool) (xs : List X) → count_by p xs ≡ 0 → list_any p xs ≡ false
  none_any p [] is = refl
  none_any p (x ∷ xs) is =
      let at = sum_by-cons (λ (y : X). one_if (p y)) x xs in
      elim (cases_Bool (p x)) [
        | inl holds ↦ absurd (let here : one_if (p x) ≡ 1 = ap one_if holds in omega (arith, at, here, is))
        | inr fails ↦ or_from (p x) (list_any p xs) fails (none_any p xs (omega (arith, at, is)))
      ]

  pub any_fewer : (p q : X → Bool) → ((x : X) → q x ≡ true → p x ≡ true) → (xs : List X) → list_any p xs ≡ false → list_any q xs ≡ false
  any_fewer p q less [] is = refl
  any_fewer p q less (x ∷ xs) is =
      let parts = or_parts (p x) (list_any p xs) is in
      elim (cases_Bool (q x)) [
        | inl holds ↦ absurd (true≢false (sym (less x holds) ∙ parts.0))
        | inr fails ↦ or_from (q x) (list_any q xs) fails (any_fewer p q less xs parts.1)
      ]

  pub const_map : (j : ℕ) (xs ys : List X) → length xs ≡ length ys → map (λ x. j) xs ≡ map (λ x. j) ys
  const_map j [] [] same = refl
  const_map j [] (y ∷ ys) same = absurd (omega arith)
  const_map j (x ∷ xs) [] same = absurd (omega arith)
  const_map j (x ∷ xs) (y ∷ ys) same = ap (λ (l : List ℕ). j ∷ l) (const_map j xs ys (omega arith))

  -- what names, and how often, by where it first does
  pub first_namer : (F : ℕ → List X) (len a p : ℕ) (rest : List ℕ) → flat_map (λ j. map (λ x. j) (F j)) (range_with_len a len) ≡ p ∷ rest → (0 < length (F p)) × (p < a + len)
  first_namer F zero a p rest is = absurd (let e : [] ≡ p ∷ rest = is in cc)
  first_namer F (suc len) a p rest is = by_list (F a) refl (first_namer F len (a + 1) p rest) is where
    by_list : (xs : List X) → F a ≡ xs → (flat_map (λ j. map (λ x. j) (F j)) (range_with_len (a + 1) len) ≡ p ∷ rest → (0 < length (F p)) × (p < a + 1 + len)) → map (λ x. a) xs ++ flat_map (λ j. map (λ x. j) (F j)) (range_with_len (a + 1) len) ≡ p ∷ rest → (0 < length (F p)) × (p < a + suc len)
    by_list [] none later more = let at = later more in (at.0, omega (arith, at.1))
    by_list (x ∷ xs) some later more =
        let here : a ≡ p = cc in
        let long : length (F p) ≡ suc (length xs) = ap (λ (k : ℕ). length (F k)) (sym here) ∙ ap length some in
        (omega (arith, long), omega (arith, here))

bytes_eq-sym : (a b : List ℕ) → bytes_eq a b ≡ bytes_eq b a
bytes_eq-sym a b = elim (cases_Bool (bytes_eq a b)) [
  | inl holds ↦ holds ∙ sym ((bytes_eq-Decides b a).1 (sym ((bytes_eq-Decides a b).0 holds)))
  | inr fails ↦ elim (cases_Bool (bytes_eq b a)) [
    | inl holds ↦ absurd (true≢false (sym ((bytes_eq-Decides a b).1 (sym ((bytes_eq-Decides b a).0 holds))) ∙ fails))
    | inr other ↦ fails ∙ sym other
  ]
]

abbrev pub named_so : List ℕ → Slot → Bool
named_so name s = bytes_eq s.name name

alike_count : (name : List ℕ) (xs : List Slot) → count_by (λ t. bytes_eq name t.name) xs ≡ count_by (named_so name) xs
alike_count name xs = λ k. sum_by (λ (t : Slot). cond (bytes_eq-sym name t.name k) 1 0) xs

pub twice_counts : (xs : List Slot) → has_twice xs ≡ false → (name : List ℕ) → count_by (named_so name) xs ≤ 1
twice_counts [] is name = omega arith
twice_counts (s ∷ xs) is name =
    let parts = or_parts (list_any (λ t. bytes_eq s.name t.name) xs) (has_twice xs) is in
    let at = sum_by-cons (λ (y : Slot). one_if (bytes_eq y.name name)) s xs in
    elim (cases_Bool (bytes_eq s.name name)) [
      | inl holds ↦
          let same : s.name ≡ name = (bytes_eq-Decides s.name name).0 holds in
          let none : count_by (named_so s.name) xs ≡ 0 = sym (alike_count s.name xs) ∙ any_none (λ t. bytes_eq s.name t.name) xs parts.0 in
          let also : count_by (named_so name) xs ≡ 0 = ap (λ (m : List ℕ). count_by (named_so m) xs) (sym same) ∙ none in
          let here : one_if (bytes_eq s.name name) ≡ 1 = ap one_if holds in
          omega (arith, at, also, here)
      | inr fails ↦
          let here : one_if (bytes_eq s.name name) ≡ 0 = ap one_if fails in
          omega (arith, at, here, twice_counts xs parts.1 name)
    ]

pub counts_twice : (xs : List Slot) → ((name : List ℕ) → count_by (named_so name) xs ≤ 1) → has_twice xs ≡ false
counts_twice [] few = refl
counts_twice (s ∷ xs) few =
    let at = λ (name : List ℕ). sum_by-cons (λ (y : Slot). one_if (bytes_eq y.name name)) s xs in
    let own : one_if (bytes_eq s.name s.name) ≡ 1 = ap one_if ((bytes_eq-Decides s.name s.name).1 refl) in
    let none : count_by (named_so s.name) xs ≡ 0 = omega (arith, at s.name, own, few s.name) in
    or_from (list_any (λ t. bytes_eq s.name t.name) xs) (has_twice xs)
    (none_any (λ t. bytes_eq s.name t.name) xs (alike_count s.name xs ∙ none))
    (counts_twice xs (λ name. omega (arith, at name, few name)))

-- weights of slots in use: one for a name; one for an inode that isn't in use; one for an inode that is named by an entry
abbrev pub of_name : List ℕ → ℕ → List ℕ → ℕ
of_name other ino name = cond (not (ino == 0)) (cond (bytes_eq name other) 1 0) 0

abbrev pub of_unused : (ℕ → Bool) → ℕ → List ℕ → ℕ
of_unused used ino name = cond (not (ino == 0)) (cond (not (used ino)) 1 0) 0

abbrev pub of_entry : ℕ → ℕ → List ℕ → ℕ
of_entry k ino name = cond (not (ino == 0)) (cond (not (bytes_eq name dot || bytes_eq name dot_dot)) (cond (ino == k) 1 0) 0) 0

-- one for a slot that names this inode
abbrev pub of_inode : ℕ → ℕ → List ℕ → ℕ
of_inode i ino name = cond (ino == i) 1 0

abbrev pub in_use : List Slot → List Slot
in_use slots = filter (λ s. not (s.ino == 0)) slots

abbrev pub entries_of : List Slot → List Slot
entries_of slots = filter (λ s. not (bytes_eq s.name dot || bytes_eq s.name dot_dot)) (in_use slots)

pub count_names : (other : List ℕ) (slots : List Slot) → count_by (named_so other) (in_use slots) ≡ slot_sum (of_name other) slots
count_names other slots = filtered_sum (λ s. not (s.ino == 0)) (λ s. cond (bytes_eq s.name other) 1 0) slots

pub count_unused : (used : ℕ → Bool) (slots : List Slot) → count_by (λ s. not (used s.ino)) (in_use slots) ≡ slot_sum (of_unused used) slots
count_unused used slots = filtered_sum (λ s. not (s.ino == 0)) (λ s. cond (not (used s.ino)) 1 0) slots

pub count_entries : (k : ℕ) (slots : List Slot) → length (filter (λ s. s.ino == k) (entries_of slots)) ≡ slot_sum (of_entry k) slots
count_entries k slots =
    length-filter (λ (s : Slot). s.ino == k) (entries_of slots)
    ∙ filtered_sum (λ s. not (bytes_eq s.name dot || bytes_eq s.name dot_dot)) (λ s. cond (s.ino == k) 1 0) (in_use slots)
    ∙ filtered_sum (λ s. not (s.ino == 0)) (λ s. cond (not (bytes_eq s.name dot || bytes_eq s.name dot_dot)) (cond (s.ino == k) 1 0) 0) slots
