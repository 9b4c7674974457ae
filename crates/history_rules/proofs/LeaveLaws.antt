-- What a name that is taken out changes of the slots of a directory: which slot goes, and their sums.
use Rattle.std.proofs.Common.{◌≡◌, ◌≢◌, ◌≤◌, ◌<◌, ℕ, zero, suc, ◌+◌, ◌==◌, Bool, true, false, not, cond, List, [], ◌∷◌, ◌++◌, length, get_or, Option, Some, None, refl, sym, ap, subst, inl, inr, ◌∙◌, arith, bytes_eq}
use Rattle.std.proofs.lemmas.Bool.{cases_Bool, and_parts, true≢false, cases_lt, lt-ltb}
use Rattle.std.proofs.lemmas.Slice.Eq.{bytes_eq-Decides}
use Rattle.std.proofs.lemmas.List.Sums.{sum_by-cons, sum_by-append}
use Rattle.std.proofs.lemmas.List.Quantifiers.{position-Some}
use Rattle.std.specs.List.{position_or_len}
use Rattle.std.specs.Option.{option_or}
use Rattle.volume_model.specs.declared.directory.Slot.{Slot}
use Rattle.volume_model.specs.Format.{found_at, joined, without_slot}
use Rattle.volume_model.specs.Sound.{dot, dot_dot}
use Rattle.history_model.specs.Places.{has_name}
use Rattle.history_model.specs.Edits.{taken_out_of}
use Rattle.history_rules.proofs.NameLaws.{named, skip, takes, named_append}
use Rattle.history_rules.proofs.EnterLaws.{all_slots, slot_sum}
use Rattle.history_rules.proofs.ChangedRightLaws.{BeginsAs, begin_parts}

-- the slot that gives inode i the name becomes unused, or gives its bytes to the slot before it
pub data LeavesFrom (name : List ℕ) (i : ℕ) (xs ys : List Slot) : Type 0 where
  Frees : (front : List Slot) (s : Slot) (back : List Slot) → has_name name s ≡ true → s.ino ≡ i → xs ≡ front ++ (s ∷ back) → ys ≡ front ++ (record { ino = 0; len = s.len; name = [] } ∷ back) → LeavesFrom name i xs ys
  Joins : (front : List Slot) (t s : Slot) (back : List Slot) → has_name name s ≡ true → s.ino ≡ i → xs ≡ front ++ (t ∷ (s ∷ back)) → ys ≡ front ++ (record t { len = t.len + s.len } ∷ back) → LeavesFrom name i xs ys

module _ (name : List ℕ) (i : ℕ) where
  behind_one : (x : Slot) (xs ys : List Slot) → LeavesFrom name i xs ys → LeavesFrom name i (x ∷ xs) (x ∷ ys)
  behind_one x xs ys (Frees front s back holds is before after) = Frees (x ∷ front) s back holds is (ap (λ (l : List Slot). x ∷ l) before) (ap (λ (l : List Slot). x ∷ l) after)
  behind_one x xs ys (Joins front t s back holds is before after) = Joins (x ∷ front) t s back holds is (ap (λ (l : List Slot). x ∷ l) before) (ap (λ (l : List Slot). x ∷ l) after)

  behind : (front xs ys : List Slot) → LeavesFrom name i xs ys → LeavesFrom name i (front ++ xs) (front ++ ys)
  behind [] xs ys leaves = leaves
  behind (x ∷ front) xs ys leaves = behind_one x (front ++ xs) (front ++ ys) (behind front xs ys leaves)

  abbrev empty : Slot
  empty = record { ino = 0; len = 0; name = [] }

  abbrev IsAt : List Slot → ℕ → Type 0
  IsAt slots place = (has_name name (get_or slots place empty) ≡ true) × ((get_or slots place empty).ino ≡ i)

  joins_at : (t : Slot) (slots : List Slot) (place : ℕ) (more : List Slot) → place < length slots → IsAt slots place → LeavesFrom name i (t ∷ (slots ++ more)) (joined t slots place ++ more)
  joins_at t [] place more below at = absurd (omega arith)
  joins_at t (s ∷ slots) zero more below at = Joins [] t s (slots ++ more) at.0 at.1 refl refl
  joins_at t (s ∷ slots) (suc place) more below at = behind_one t (s ∷ (slots ++ more)) (joined s slots place ++ more) (joins_at s slots place more (omega arith) at)

  leaves_at : (slots : List Slot) (place : ℕ) (more : List Slot) → place < length slots → IsAt slots place → LeavesFrom name i (slots ++ more) (without_slot slots place ++ more)
  leaves_at [] place more below at = absurd (omega arith)
  leaves_at (s ∷ slots) zero more below at = Frees [] s (slots ++ more) at.0 at.1 refl refl
  leaves_at (s ∷ slots) (suc place) more below at = joins_at s slots place more (omega arith) at

  -- the first slot that has the name is that of the inode
  pub first_is : (slots : List Slot) (place : ℕ) (more : List Slot) → place < length slots → has_name name (get_or slots place empty) ≡ true → ((k : ℕ) → k < place → has_name name (get_or slots k empty) ≡ false)
      → named (slots ++ more) name ≡ Some i → (get_or slots place empty).ino ≡ i
  first_is [] place more below holds before is = absurd (omega arith)
  first_is (s ∷ slots) zero more below holds before is = let e : Some s.ino ≡ Some i = sym (takes s (slots ++ more) name holds) ∙ is in cc
  first_is (s ∷ slots) (suc place) more below holds before is =
      first_is slots place more (omega arith) holds (λ k less. before (suc k) (omega arith)) (sym (skip s (slots ++ more) name (before 0 (omega arith))) ∙ is)

  none_in_chunk : (slots : List Slot) → length slots ≤ position_or_len (has_name name) slots → named slots name ≡ None
  none_in_chunk [] past = refl
  none_in_chunk (s ∷ slots) past =
      let by : Bool → ℕ = λ b. cond (not b) (1 + position_or_len (has_name name) slots) 0 in
      elim (cases_Bool (has_name name s)) [
        | inl holds ↦ absurd (let none : position_or_len (has_name name) (s ∷ slots) ≡ 0 = ap by holds in omega (arith, none, past))
        | inr fails ↦
            let more : position_or_len (has_name name) (s ∷ slots) ≡ 1 + position_or_len (has_name name) slots = ap by fails in
            skip s slots name fails ∙ none_in_chunk slots (omega (arith, more, past))
      ]

  pub not_found : (chunk : List Slot) → found_at chunk name ≡ None → named chunk name ≡ None
  not_found chunk none = elim (cases_lt (position_or_len (has_name name) chunk) (length chunk)) [
    | inl less ↦ absurd (
        let some : found_at chunk name ≡ Some (position_or_len (has_name name) chunk) =
        ap (λ (b : Bool). cond b (Some (position_or_len (has_name name) chunk)) None) (lt-ltb (position_or_len (has_name name) chunk) (length chunk) less) in
        let e : Some (position_or_len (has_name name) chunk) ≡ None = sym some ∙ none in
        cc
        )
    | inr past ↦ none_in_chunk chunk past
  ]

  by_found : (chunk : List Slot) (chunks : List (List Slot)) (found : Option ℕ) → found_at chunk name ≡ found
      → (named (all_slots chunks) name ≡ Some i → LeavesFrom name i (all_slots chunks) (all_slots (taken_out_of chunks name))) → named (chunk ++ all_slots chunks) name ≡ Some i
      → LeavesFrom name i (chunk ++ all_slots chunks)
      (all_slots (let after : List (List Slot) = elim found [ Some place ↦ without_slot chunk place ∷ chunks | None ↦ chunk ∷ taken_out_of chunks name ] in after))
  by_found chunk chunks None found more is =
      let rest : named (all_slots chunks) name ≡ Some i =
      sym (named_append chunk (all_slots chunks) name ∙ ap (λ (o : Option ℕ). option_or o (named (all_slots chunks) name)) (not_found chunk found)) ∙ is in
      behind chunk (all_slots chunks) (all_slots (taken_out_of chunks name)) (more rest)
  by_found chunk chunks (Some place) found more is =
      let at = position-Some (has_name name) chunk place empty found in
      leaves_at chunk place (all_slots chunks) at.0 (at.1, first_is chunk place (all_slots chunks) at.0 at.1 at.2 is)

  pub leaves : (chunks : List (List Slot)) → named (all_slots chunks) name ≡ Some i → LeavesFrom name i (all_slots chunks) (all_slots (taken_out_of chunks name))
  leaves [] is = absurd (let e : None ≡ Some i = is in cc)
  leaves (chunk ∷ chunks) is = by_found chunk chunks (found_at chunk name) refl (leaves chunks) is

  pub name_is : (s : Slot) → has_name name s ≡ true → s.name ≡ name
  name_is s holds = (bytes_eq-Decides s.name name).0 (and_parts (not (s.ino == 0)) (bytes_eq s.name name) holds).1

  pub leaves-sum : (v : ℕ → List ℕ → ℕ) → ((other : List ℕ) → v 0 other ≡ 0) → (xs ys : List Slot) → LeavesFrom name i xs ys → slot_sum v ys + v i name ≡ slot_sum v xs
  leaves-sum v unused xs ys (Frees front s back holds is before after) =
      let weight : Slot → ℕ = λ s. v s.ino s.name in
      let free : Slot = record { ino = 0; len = s.len; name = [] } in
      let gone : v s.ino s.name ≡ v i name = ap (λ (k : ℕ). v k s.name) is ∙ ap (v i) (name_is s holds) in
      omega (
        arith,
        ap (slot_sum v) before,
        ap (slot_sum v) after,
        sum_by-append weight front (s ∷ back),
        sum_by-cons weight s back,
        sum_by-append weight front (free ∷ back),
        sum_by-cons weight free back,
        gone,
        unused [],
      )
  leaves-sum v unused xs ys (Joins front t s back holds is before after) =
      let weight : Slot → ℕ = λ s. v s.ino s.name in
      let longer : Slot = record t { len = t.len + s.len } in
      let gone : v s.ino s.name ≡ v i name = ap (λ (k : ℕ). v k s.name) is ∙ ap (v i) (name_is s holds) in
      omega (
        arith,
        ap (slot_sum v) before,
        ap (slot_sum v) after,
        sum_by-append weight front (t ∷ (s ∷ back)),
        sum_by-cons weight t (s ∷ back),
        sum_by-cons weight s back,
        sum_by-append weight front (longer ∷ back),
        sum_by-cons weight longer back,
        gone,
      )

  -- a slot with another name than these two is neither of the first two
  module _ (dir parent : ℕ) (not_dot : name ≢ dot) (not_dot_dot : name ≢ dot_dot) where
    pub not_first : (s : Slot) (back : List Slot) → has_name name s ≡ true → BeginsAs dir parent (s ∷ back) → ⊥
    not_first s [] holds is = true≢false (sym is.0)
    not_first s (t ∷ back) holds is =
        let parts = begin_parts dir s t back is.0 in
        not_dot (sym (name_is s holds) ∙ (bytes_eq-Decides s.name dot).0 parts.0)

    pub not_second : (x s : Slot) (back : List Slot) → has_name name s ≡ true → BeginsAs dir parent (x ∷ (s ∷ back)) → ⊥
    not_second x s back holds is =
        let parts = begin_parts dir x s back is.0 in
        not_dot_dot (sym (name_is s holds) ∙ (bytes_eq-Decides s.name dot_dot).0 parts.3)

    frees_begins : (front : List Slot) (s : Slot) (back : List Slot) → has_name name s ≡ true → BeginsAs dir parent (front ++ (s ∷ back)) → BeginsAs dir parent (front ++ (record { ino = 0; len = s.len; name = [] } ∷ back))
    frees_begins [] s back holds is = absurd (not_first s back holds is)
    frees_begins (x ∷ []) s back holds is = absurd (not_second x s back holds is)
    frees_begins (x ∷ (y ∷ front)) s back holds is = is

    joins_begins : (front : List Slot) (t s : Slot) (back : List Slot) → has_name name s ≡ true → BeginsAs dir parent (front ++ (t ∷ (s ∷ back)))
        → BeginsAs dir parent (front ++ (record t { len = t.len + s.len } ∷ back))
    joins_begins [] t s back holds is = absurd (not_second t s back holds is)
    joins_begins (x ∷ []) t s back holds is = is
    joins_begins (x ∷ (y ∷ front)) t s back holds is = is

    pub leaves_begins : (xs ys : List Slot) → LeavesFrom name i xs ys → BeginsAs dir parent xs → BeginsAs dir parent ys
    leaves_begins xs ys (Frees front s back holds at before after) is = subst (BeginsAs dir parent) (sym after) (frees_begins front s back holds (subst (BeginsAs dir parent) before is))
    leaves_begins xs ys (Joins front t s back holds at before after) is = subst (BeginsAs dir parent) (sym after) (joins_begins front t s back holds (subst (BeginsAs dir parent) before is))
