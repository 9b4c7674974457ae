-- Names each of which comes after those before it, so that no two are the same.
use Rattle.std.proofs.Common.{◌≡◌, ℕ, List, [], ◌∷◌, ◌++◌, Bool, false, ◌||◌, bytes_eq, Less, sym, ap, ◌∙◌}
use Rattle.std.specs.Ordering.{nat_cmp, is_eq}
use Rattle.std.specs.Cmp.Lexicographic.{slice_cmp}
use Rattle.std.proofs.lemmas.Cmp.{nat_list_cmp_total}
use Rattle.std.proofs.lemmas.List.Folds.{list_any-append}
use Rattle.volume_model.specs.declared.directory.Slot.{Slot}
use Rattle.volume_model.specs.Sound.{has_twice}
use Rattle.fsck_core.proofs.NamesTwice.{is_named_among, same_name, twice_more}

-- no slot of these has a name that comes after this one
abbrev pub NonePast : List Slot → List ℕ → Type 0
NonePast slots last = (name : List ℕ) → slice_cmp nat_cmp last name ≡ Less → is_named_among slots name ≡ false

-- one slot more, whose name comes after
pub once_rising : (slots : List Slot) (s : Slot) (last : List ℕ) → has_twice slots ≡ false → NonePast slots last → slice_cmp nat_cmp last s.name ≡ Less
    → has_twice (slots ++ s ∷ []) ≡ false
once_rising slots s last once past less =
    twice_more slots s ∙ ap (λ (b : Bool). b || is_named_among slots s.name) once ∙ past s.name less

pub past_rising : (slots : List Slot) (s : Slot) (last : List ℕ) → NonePast slots last → slice_cmp nat_cmp last s.name ≡ Less → NonePast (slots ++ s ∷ []) s.name
past_rising slots s last past less name more =
    let apart : bytes_eq s.name name ≡ false = sym (same_name s.name name) ∙ ap is_eq more in
    list_any-append (λ (t : Slot). bytes_eq t.name name) slots (s ∷ [])
    ∙ ap (λ (b : Bool). b || (bytes_eq s.name name || false)) (past name (nat_list_cmp_total.trans last s.name name less more))
    ∙ ap (λ (b : Bool). b || false) apart
