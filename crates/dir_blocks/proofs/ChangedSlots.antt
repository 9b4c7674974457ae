-- Changes of a row of slots, as the code makes them and as they are defined.
use Rattle.std.proofs.Common.{◌≡◌, ℕ, zero, suc, ◌+◌, ◌-◌, ◌<◌, ◌≤◌, List, [], ◌∷◌, ◌++◌, length, get_or, set, insert, remove, take, drop, sum_by, add-one, if◌then◌else◌, Bool, refl, ap, sym, subst, ◌∙◌, arith, ◌≢◌, ◌==◌, ◌&&◌, not, false, Option, Some, None, IfSome, IsSomeAnd, bytes_eq}
use Rattle.std.proofs.lemmas.Bool.{eq-eqb, ne_eqb, eqb-false, and_parts, not-true}
use Rattle.std.proofs.lemmas.List.Quantifiers.{position-Some}
use Rattle.std.proofs.lemmas.Option.{slice_get-get_or}
use Rattle.std.proofs.lemmas.List.{get_or_read}
use Rattle.std.proofs.lemmas.List.Sums.{sum_by-cons}
use Rattle.volume_model.specs.declared.directory.Slot.{Slot}
use Rattle.volume_model.specs.Format.{kept_length, entered, with_name_at, with_ino, without_slot, found_at, IsUsed}

-- a slot names another inode
pub renumbered : (slots : List Slot) (place i : ℕ) (s : Slot) → place < length slots → s ≡ get_or slots place s
    → set slots place (record { ino = i; len = s.len; name = s.name }) ≡ with_ino slots place i
renumbered [] place i s below is = absurd (omega arith)
renumbered (t ∷ slots) zero i s below is = ap (λ (x : Slot). record { ino = i; len = x.len; name = x.name } ∷ slots) is
renumbered (t ∷ slots) (suc place) i s below is = ap (λ (l : List Slot). t ∷ l) (renumbered slots place i s (omega arith) is)

-- an unused slot is taken over
pub taken_over : (slots : List Slot) (place i : ℕ) (name : List ℕ) (s : Slot) → place < length slots → s ≡ get_or slots place s → s.ino ≡ 0
    → set slots place (record { ino = i; len = s.len; name = name }) ≡ with_name_at slots place name i
taken_over [] place i name s below is free = absurd (omega arith)
taken_over (t ∷ slots) zero i name s below is free =
    let Entered : Slot → Type 0 = λ x. (record { ino = i; len = s.len; name = name } ∷ slots) ≡ entered x name i ++ slots in
    subst Entered is (sym (ap (λ (b : Bool). (if b then record s { ino = i; name = name } ∷ [] else record s { len = kept_length s } ∷ (record { ino = i; len = s.len - kept_length s; name = name } ∷ [])) ++ slots) (eq-eqb s.ino 0 free)))
taken_over (t ∷ slots) (suc place) i name s below is free = ap (λ (l : List Slot). t ∷ l) (taken_over slots place i name s (omega arith) is free)

-- a slot is inserted after one that stays
pub stays : (slots : List Slot) (place : ℕ) (new d : Slot) → place < length slots
    → get_or (take (suc place) slots ++ new ∷ drop (suc place) slots) place d ≡ get_or slots place d
stays [] place new d below = absurd (omega arith)
stays (t ∷ slots) zero new d below = refl
stays (t ∷ slots) (suc place) new d below = stays slots place new d (omega arith)

-- a slot in use is cut, and the new one stands after it
pub cut_at : (slots : List Slot) (place i kept : ℕ) (name : List ℕ) (s : Slot) → place < length slots → s ≡ get_or slots place s → (s.ino ≡ 0 → ⊥)
    → kept ≡ kept_length s
    → set (take (suc place) slots ++ record { ino = i; len = s.len - kept; name = name } ∷ drop (suc place) slots) place (record { ino = s.ino; len = kept; name = s.name })
    ≡ with_name_at slots place name i
cut_at [] place i kept name s below is used size = absurd (omega arith)
cut_at (t ∷ slots) zero i kept name s below is used size =
    let both = λ (k : ℕ). record { ino = s.ino; len = k; name = s.name } ∷ (record { ino = i; len = s.len - k; name = name } ∷ slots) in
    let Entered : Slot → Type 0 = λ x. both kept ≡ entered x name i ++ slots in
    subst Entered is (ap both size ∙ sym (ap (λ (b : Bool). (if b then record s { ino = i; name = name } ∷ [] else record s { len = kept_length s } ∷ (record { ino = i; len = s.len - kept_length s; name = name } ∷ [])) ++ slots) (ne_eqb s.ino 0 used)))
cut_at (t ∷ slots) (suc place) i kept name s below is used size = ap (λ (l : List Slot). t ∷ l) (cut_at slots place i kept name s (omega arith) is used size)

-- a slot gives its bytes to the one before it
pub joined_at : (slots : List Slot) (place : ℕ) (freed s : Slot) → suc place < length slots → freed ≡ get_or slots (suc place) freed
    → s ≡ get_or (take (suc place) slots ++ drop (suc (suc place)) slots) place s
    → set (take (suc place) slots ++ drop (suc (suc place)) slots) place (record { ino = s.ino; len = s.len + freed.len; name = s.name }) ≡ without_slot slots (suc place)
joined_at [] place freed s below is before = absurd (omega arith)
joined_at (x ∷ []) place freed s below is before = absurd (omega arith)
joined_at (x ∷ (y ∷ slots)) zero freed s below is before =
    ap (λ (t : Slot). record { ino = t.ino; len = t.len + freed.len; name = t.name } ∷ slots) before
    ∙ ap (λ (t : Slot). record { ino = x.ino; len = x.len + t.len; name = x.name } ∷ slots) is
joined_at (x ∷ (y ∷ slots)) (suc place) freed s below is before = ap (λ (l : List Slot). x ∷ l) (joined_at (y ∷ slots) place freed s (omega arith) is before)

-- a slot that is written as it was
set_same : (slots : List Slot) (place : ℕ) (s : Slot) → s ≡ get_or slots place s → set slots place s ≡ slots
set_same [] place s is = refl
set_same (t ∷ slots) zero s is = ap (λ (x : Slot). x ∷ slots) is
set_same (t ∷ slots) (suc place) s is = ap (λ (l : List Slot). t ∷ l) (set_same slots place s is)

-- the same, by what the calls leave
pub entered_at : (slots after : List Slot) (place i kept : ℕ) (name : List ℕ) (s t : Slot) → place < length slots → s ≡ get_or slots place s → (s.ino ≡ 0 → ⊥)
    → kept ≡ kept_length s → after ≡ insert (set slots place s) (place + 1) (record { ino = i; len = s.len - kept; name = name }) → t ≡ get_or after place t
    → set after place (record { ino = t.ino; len = kept; name = t.name }) ≡ with_name_at slots place name i
entered_at slots after place i kept name s t below is used size made read =
    let new : Slot = record { ino = i; len = s.len - kept; name = name } in
    let rows = λ (l : List Slot) (k : ℕ). take k l ++ new ∷ drop k l in
    let one : place + 1 ≡ suc place = add-one place in
    let after_is : after ≡ rows slots (suc place) = made ∙ ap (λ (l : List Slot). rows l (place + 1)) (set_same slots place s is) ∙ ap (rows slots) one in
    let t_is : t ≡ s = read ∙ ap (λ (l : List Slot). get_or l place t) after_is ∙ stays slots place new t below ∙ sym (get_or_read slots place s below is t) in
    ap (λ (l : List Slot). set l place (record { ino = t.ino; len = kept; name = t.name })) after_is
    ∙ ap (λ (x : Slot). set (rows slots (suc place)) place (record { ino = x.ino; len = kept; name = x.name })) t_is
    ∙ cut_at slots place i kept name s below is used size

-- a slot is removed, by what the calls leave
pub removed_at : (slots after : List Slot) (place : ℕ) (freed s : Slot) → (place ≡ 0 → ⊥) → place < length slots → freed ≡ get_or slots place freed
    → after ≡ remove slots place → s ≡ get_or after (place - 1) s
    → set after (place - 1) (record { ino = s.ino; len = s.len + freed.len; name = s.name }) ≡ without_slot slots place
removed_at slots after place freed s later below is made read =
    let p = place - 1 in
    let place_is : place ≡ suc p = omega arith in
    let left = λ (k : ℕ). take k slots ++ drop (suc k) slots in
    let after_is : after ≡ left (suc p) = made ∙ ap left place_is in
    ap (λ (l : List Slot). set l p (record { ino = s.ino; len = s.len + freed.len; name = s.name })) after_is
    ∙ joined_at slots p freed s (omega arith) (is ∙ ap (λ (k : ℕ). get_or slots k freed) place_is) (read ∙ ap (λ (l : List Slot). get_or l p s) after_is)
    ∙ ap (without_slot slots) (sym place_is)

-- two slots next to one another have no more bytes than all
pub two_lengths : (slots : List Slot) (place : ℕ) (freed s : Slot) → suc place < length slots → freed ≡ get_or slots (suc place) freed
    → s ≡ get_or (take (suc place) slots ++ drop (suc (suc place)) slots) place s → s.len + freed.len ≤ sum_by (λ t. t.len) slots
two_lengths [] place freed s below is before = absurd (omega arith)
two_lengths (x ∷ []) place freed s below is before = absurd (omega arith)
two_lengths (x ∷ (y ∷ slots)) zero freed s below is before =
    omega (arith, ap (λ (t : Slot). t.len) before, ap (λ (t : Slot). t.len) is, sum_by-cons (λ t. t.len) x (y ∷ slots), sum_by-cons (λ t. t.len) y slots)
two_lengths (x ∷ (y ∷ slots)) (suc place) freed s below is before =
    omega (arith, two_lengths (y ∷ slots) place freed s (omega arith) is before, sum_by-cons (λ t. t.len) x (y ∷ slots))

-- the same, by what the calls leave
pub lengths_fit : (slots after : List Slot) (place : ℕ) (freed s : Slot) → (place ≡ 0 → ⊥) → place < length slots → freed ≡ get_or slots place freed
    → after ≡ remove slots place → s ≡ get_or after (place - 1) s → s.len + freed.len ≤ sum_by (λ t. t.len) slots
lengths_fit slots after place freed s later below is made read =
    let p = place - 1 in
    let place_is : place ≡ suc p = omega arith in
    let left = λ (k : ℕ). take k slots ++ drop (suc k) slots in
    let after_is : after ≡ left (suc p) = made ∙ ap left place_is in
    two_lengths slots p freed s (omega arith) (is ∙ ap (λ (k : ℕ). get_or slots k freed) place_is) (read ∙ ap (λ (l : List Slot). get_or l p s) after_is)

-- the slot that is found is in use
pub found_used : (slots : List Slot) (name : List ℕ) (place : Option ℕ) → place ≡ found_at slots name → IfSome place (IsUsed slots)
found_used slots name None is = tt
found_used slots name (Some place) is =
    let none : Slot = record { ino = 0; len = 0; name = [] } in
    let at = position-Some (λ s. not (s.ino == 0) && bytes_eq s.name name) slots place none (sym is) in
    let free : ((get_or slots place none).ino == 0) ≡ false = not-true _ (and_parts _ _ at.1).0 in
    subst (λ (s : Option Slot). IsSomeAnd s (λ t. t.ino ≢ 0)) (sym (slice_get-get_or slots place none at.0)) (eqb-false _ 0 free)
