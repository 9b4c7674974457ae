-- The chunks of a directory after one of them changed, as a list that is edited.
use Rattle.std.proofs.Common.{◌≡◌, ◌<◌, ◌≤◌, ℕ, zero, suc, ◌+◌, Bool, true, false, List, [], ◌∷◌, ◌++◌, map, length, Option, Some, None, refl, sym, ap, ◌∙◌, arith}
use Rattle.std.specs.Prelude.{slice_set, is_some}
use Rattle.std.specs.List.{range_with_len}
use Rattle.volume_model.specs.declared.directory.Slot.{Slot}
use Rattle.volume_model.specs.Format.{found_at, room_in, with_name, one_slot}
use Rattle.history_model.specs.Edits.{changed_in, entered_in}

-- a chunk without what is looked for
pub none_of : (o : Option ℕ) → is_some o ≡ false → o ≡ None
none_of None none = refl
none_of (Some n) none = absurd (cc)

pub changed_after : (f : List Slot → ℕ → List Slot) (name : List ℕ) (chunk : List Slot) (chunks : List (List Slot)) → is_some (found_at chunk name) ≡ false
    → changed_in f (chunk ∷ chunks) name ≡ chunk ∷ changed_in f chunks name
changed_after f name chunk chunks none =
    ap (λ (o : Option ℕ). elim o [ Some place ↦ f chunk place ∷ chunks | None ↦ chunk ∷ changed_in f chunks name ]) (none_of (found_at chunk name) none)

pub changed_first : (f : List Slot → ℕ → List Slot) (name : List ℕ) (chunk : List Slot) (chunks : List (List Slot)) (place : ℕ) → found_at chunk name ≡ Some place
    → changed_in f (chunk ∷ chunks) name ≡ f chunk place ∷ chunks
changed_first f name chunk chunks place is =
    ap (λ (o : Option ℕ). elim o [ Some place ↦ f chunk place ∷ chunks | None ↦ chunk ∷ changed_in f chunks name ]) is

-- no chunk has the name
pub none_changed : (f : List Slot → ℕ → List Slot) (name : List ℕ) (h : ℕ → List Slot) (a n : ℕ) → ((k : ℕ) → a ≤ k → k < a + n → is_some (found_at (h k) name) ≡ false)
    → changed_in f (map h (range_with_len a n)) name ≡ map h (range_with_len a n)
none_changed f name h a zero none = refl
none_changed f name h a (suc n) none =
    changed_after f name (h a) (map h (range_with_len (a + 1) n)) (none a (omega arith) (omega arith))
    ∙ ap (λ (l : List (List Slot)). h a ∷ l) (none_changed f name h (a + 1) n (λ k from below. none k (omega (arith, from)) (omega (arith, below))))

-- the first chunk with the name
pub one_changed : (f : List Slot → ℕ → List Slot) (name : List ℕ) (h : ℕ → List Slot) (a n k place : ℕ) → k < n → ((j : ℕ) → a ≤ j → j < a + k → is_some (found_at (h j) name) ≡ false)
    → found_at (h (a + k)) name ≡ Some place → changed_in f (map h (range_with_len a n)) name ≡ slice_set (map h (range_with_len a n)) k (f (h (a + k)) place)
one_changed f name h a zero k place below none is = absurd (omega (arith, below))
one_changed f name h a (suc n) zero place below none is =
    let here : a + 0 ≡ a = omega arith in
    changed_first f name (h a) (map h (range_with_len (a + 1) n)) place (ap (λ (j : ℕ). found_at (h j) name) (sym here) ∙ is)
    ∙ ap (λ (j : ℕ). f (h j) place ∷ map h (range_with_len (a + 1) n)) (sym here)
one_changed f name h a (suc n) (suc k) place below none is =
    let on : a + suc k ≡ a + 1 + k = omega arith in
    changed_after f name (h a) (map h (range_with_len (a + 1) n)) (none a (omega arith) (omega arith))
    ∙ ap (λ (l : List (List Slot)). h a ∷ l)
    (one_changed f name h (a + 1) n k place (omega (arith, below)) (λ j from low. none j (omega (arith, from)) (omega (arith, low))) (ap (λ (j : ℕ). found_at (h j) name) (sym on) ∙ is)
    ∙ ap (λ (j : ℕ). slice_set (map h (range_with_len (a + 1) n)) k (f (h j) place)) (sym on))

entered_after : (name : List ℕ) (i : ℕ) (chunk : List Slot) (chunks : List (List Slot)) → is_some (room_in chunk name) ≡ false
    → entered_in (chunk ∷ chunks) name i ≡ chunk ∷ entered_in chunks name i
entered_after name i chunk chunks none =
    ap (λ (b : Bool). elim b [ true ↦ with_name chunk name i ∷ chunks | false ↦ chunk ∷ entered_in chunks name i ]) none

entered_first : (name : List ℕ) (i : ℕ) (chunk : List Slot) (chunks : List (List Slot)) → is_some (room_in chunk name) ≡ true
    → entered_in (chunk ∷ chunks) name i ≡ with_name chunk name i ∷ chunks
entered_first name i chunk chunks some =
    ap (λ (b : Bool). elim b [ true ↦ with_name chunk name i ∷ chunks | false ↦ chunk ∷ entered_in chunks name i ]) some

-- no chunk has room for the name
pub one_more : (name : List ℕ) (i : ℕ) (h : ℕ → List Slot) (a n : ℕ) → ((k : ℕ) → a ≤ k → k < a + n → is_some (room_in (h k) name) ≡ false)
    → entered_in (map h (range_with_len a n)) name i ≡ map h (range_with_len a n) ++ one_slot name i ∷ []
one_more name i h a zero none = refl
one_more name i h a (suc n) none =
    entered_after name i (h a) (map h (range_with_len (a + 1) n)) (none a (omega arith) (omega arith))
    ∙ ap (λ (l : List (List Slot)). h a ∷ l) (one_more name i h (a + 1) n (λ k from below. none k (omega (arith, from)) (omega (arith, below))))

-- the first chunk with room for the name
pub one_entered : (name : List ℕ) (i : ℕ) (h : ℕ → List Slot) (a n k : ℕ) → k < n → ((j : ℕ) → a ≤ j → j < a + k → is_some (room_in (h j) name) ≡ false)
    → is_some (room_in (h (a + k)) name) ≡ true → entered_in (map h (range_with_len a n)) name i ≡ slice_set (map h (range_with_len a n)) k (with_name (h (a + k)) name i)
one_entered name i h a zero k below none some = absurd (omega (arith, below))
one_entered name i h a (suc n) zero below none some =
    let here : a + 0 ≡ a = omega arith in
    entered_first name i (h a) (map h (range_with_len (a + 1) n)) (ap (λ (j : ℕ). is_some (room_in (h j) name)) (sym here) ∙ some)
    ∙ ap (λ (j : ℕ). with_name (h j) name i ∷ map h (range_with_len (a + 1) n)) (sym here)
one_entered name i h a (suc n) (suc k) below none some =
    let on : a + suc k ≡ a + 1 + k = omega arith in
    entered_after name i (h a) (map h (range_with_len (a + 1) n)) (none a (omega arith) (omega arith))
    ∙ ap (λ (l : List (List Slot)). h a ∷ l)
    (one_entered name i h (a + 1) n k (omega (arith, below)) (λ j from low. none j (omega (arith, from)) (omega (arith, low))) (ap (λ (j : ℕ). is_some (room_in (h j) name)) (sym on) ∙ some)
    ∙ ap (λ (j : ℕ). slice_set (map h (range_with_len (a + 1) n)) k (with_name (h j) name i)) (sym on))
