-- Blocks freed one after the other.
use Rattle.std.proofs.Common.{◌≡◌, ◌<◌, ◌≤◌, ℕ, ◌+◌, ◌*◌, eqb, Bool, true, false, not, List, [], ◌∷◌, ◌++◌, length, take, get_or, zero, suc, Option, Some, None, refl, sym, ap, ◌∙◌, arith}
use Rattle.std.specs.Prelude.{is_some, if◌then◌else◌}
use Rattle.std.specs.List.{filter}
use Rattle.std.proofs.lemmas.Bool.{both_ways, eqb-true}
use Rattle.std.proofs.lemmas.List.{take_more}
use Rattle.std.proofs.lemmas.List.Elements.{filter_more}
use Rattle.std.proofs.lemmas.List.Sums.{sum_by-append}
use Rattle.volume_laws.proofs.Counting.{one_if}
use Rattle.meta_store.specs.declared.change.Change.{Change}
use Rattle.meta_store.specs.declared.change.Freed.{Freed}
use Rattle.meta_draft.specs.Drafted.{with_freed}
use Rattle.draft_laws.specs.Freeing.{with_all_freed}
use Rattle.draft_laws.proofs.GivenBack.{one_freed_more}
use Rattle.file_map.specs.Freed.{metadata_among}

-- blocks that are freed take none
pub taken_kept : (freed : List Freed) (change : Change) → (with_all_freed change freed).taken ≡ change.taken
taken_kept [] change = refl
taken_kept (f ∷ freed) change = taken_kept freed (with_freed change f)

-- the next block of a list
pub freed_more : (old mid new : Change) (freed : List Freed) (k : ℕ) (d : Freed) → k < length freed → mid ≡ with_all_freed old (take k freed) → new ≡ with_freed mid (get_or freed k d)
    → new ≡ with_all_freed old (take (k + 1) freed)
freed_more old mid new freed k d inside before is =
    let f = get_or freed k d in
    is ∙ ap (λ (c : Change). with_freed c f) before ∙ sym (ap (with_all_freed old) (take_more freed k d inside) ∙ one_freed_more old (take k freed) f)

metadata_more : (freed : List Freed) (k : ℕ) (d : Freed) → k < length freed → metadata_among (take (k + 1) freed) ≡ metadata_among (take k freed) + metadata_among (get_or freed k d ∷ [])
metadata_more freed k d inside =
    ap metadata_among (take_more freed k d inside) ∙ sum_by-append (λ (f : Freed). one_if f.meta) (take k freed) (get_or freed k d ∷ [])

pub growth_more : (old mid new : ℕ) (freed : List Freed) (k : ℕ) (d : Freed) → k < length freed → mid ≤ old + 16 * metadata_among (take k freed)
    → new ≤ mid + 16 * metadata_among (get_or freed k d ∷ []) → new ≤ old + 16 * metadata_among (take (k + 1) freed)
growth_more old mid new freed k d inside before grows = omega (arith, before, grows, metadata_more freed k d inside)

-- the next one that passes
pub passing_more : (p : Freed → Bool) (freed xs ys : List Freed) (k : ℕ) (d : Freed) → k < length freed → xs ≡ filter p (take k freed)
    → ys ≡ xs ++ (if p (get_or freed k d) then get_or freed k d ∷ [] else []) → ys ≡ filter p (take (k + 1) freed)
passing_more p freed xs ys k d inside before is =
    let f = get_or freed k d in
    is ∙ ap (λ (l : List Freed). l ++ (if p f then f ∷ [] else [])) before ∙ sym (filter_more p freed k d inside)

-- what tests say of an option and of a list
pub none_there : {X : Type 0} (o : Option X) (test : Bool) → is_some o ≡ not test → test ≡ true → o ≡ None
none_there None test is true_test = refl
none_there (Some x) test is true_test = absurd (both_ways (not test) (ap not true_test) (sym is))

pub none_among : {X : Type 0} (xs : List X) → eqb (length xs) 0 ≡ true → xs ≡ []
none_among [] is = refl
none_among (x ∷ xs) is = absurd (omega (arith, eqb-true (length (x ∷ xs)) 0 is))
