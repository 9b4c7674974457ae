-- What holds of each byte between the places where a list is cut.
use Rattle.std.proofs.Common.{◌≡◌, ℕ, Bool, true, false, cond, List, [], ◌∷◌, refl}
use Rattle.std.specs.Prelude.{◌==◌}
use Rattle.std.specs.List.{list_all, filter, slice_split, onto_first, AllByRecursion}
use Rattle.std.proofs.lemmas.Bool.{and_parts, and_from}

abbrev pub AllOf : (test : ℕ → Bool) → List (List ℕ) → Type 0
AllOf test parts = AllByRecursion (λ part. list_all test part ≡ true) parts

module _ (P Q : ℕ → Bool) (cut : ℕ) (each : (b : ℕ) → (b == cut) ≡ false → P b ≡ true → Q b ≡ true) where
  onto : (b : ℕ) → Q b ≡ true → (parts : List (List ℕ)) → AllOf Q parts → AllOf Q (onto_first b parts)
  onto b is [] all = (and_from (Q b) true is refl, tt)
  onto b is (part ∷ parts) all = (and_from (Q b) (list_all Q part) is all.0, all.1)

  pub parts_all : (bytes : List ℕ) → list_all P bytes ≡ true → AllOf Q (slice_split (λ b. b == cut) bytes)
  parts_all [] is = (refl, tt)
  parts_all (b ∷ bytes) is = by_cut (b == cut) refl (parts_all bytes (and_parts (P b) (list_all P bytes) is).1) where
    by_cut : (t : Bool) → (b == cut) ≡ t → AllOf Q (slice_split (λ b. b == cut) bytes)
        → AllOf Q (cond t ([] ∷ slice_split (λ b. b == cut) bytes) (onto_first b (slice_split (λ b. b == cut) bytes)))
    by_cut true at more = (refl, more)
    by_cut false at more = onto b (each b at (and_parts (P b) (list_all P bytes) is).0) (slice_split (λ b. b == cut) bytes) more

-- of those that are kept, with the test by which they are kept
pub kept_all : (P : List ℕ → Type 0) (test : List ℕ → Bool) (parts : List (List ℕ)) → AllByRecursion P parts → AllByRecursion (λ part. (test part ≡ true) × P part) (filter test parts)
kept_all P test [] all = tt
kept_all P test (part ∷ parts) all = by_test (test part) refl (kept_all P test parts all.1) where
  by_test : (t : Bool) → test part ≡ t → AllByRecursion (λ part. (test part ≡ true) × P part) (filter test parts)
      → AllByRecursion (λ part. (test part ≡ true) × P part) (cond t (part ∷ filter test parts) (filter test parts))
  by_test true is more = ((is, all.0), more)
  by_test false is more = more
