-- The records of a transaction, one after the other.
use Rattle.std.proofs.Common.{◌≡◌, ℕ, ◌+◌, ◌≤◌, ◌<◌, List, [], ◌∷◌, ◌++◌, length, take, get_or, sym, ap, ◌∙◌, arith}
use Rattle.std.specs.List.{flat_map}
use Rattle.std.proofs.lemmas.List.{take_more, flat_map_more}
use Rattle.std.proofs.lemmas.List.Folds.{length-flat_map-take}
use Rattle.lufs_base.specs.Fields.{put_at}
use Rattle.lufs_base.specs.declared.delta.Delta.{Delta}
use Rattle.volume_model.specs.Log.{delta_record, commit_record, records_of}
use Rattle.log_format.proofs.Placed.{take-put_at}

-- there is room for the record of the next delta
pub record_fits : (deltas : List Delta) (d : Delta) (i at size : ℕ) → i < length deltas → d ≡ get_or deltas i d → at ≡ length (flat_map delta_record (take i deltas))
    → length (flat_map delta_record deltas) ≤ size → at + length (delta_record d) ≤ size
record_fits deltas d i at size inside is at_is fits =
    let next = length-flat_map-take delta_record deltas i d inside in
    let same : length (delta_record d) ≡ length (delta_record (get_or deltas i d)) = ap (λ (e : Delta). length (delta_record e)) is in
    omega (arith, next, same)

-- the records of one delta more
pub record_more : (deltas : List Delta) (d : Delta) (i : ℕ) → i < length deltas → d ≡ get_or deltas i d
    → flat_map delta_record (take i deltas) ++ delta_record d ≡ flat_map delta_record (take (i + 1) deltas)
record_more deltas d i inside is =
    flat_map_more delta_record [] (take i deltas) d
    ∙ ap (λ (e : Delta). flat_map delta_record (take i deltas ++ e ∷ [])) is
    ∙ ap (λ (l : List Delta). flat_map delta_record l) (sym (take_more deltas i d inside))

pub records_step : (deltas : List Delta) (d : Delta) (old new : List ℕ) (i at end : ℕ) → i < length deltas → d ≡ get_or deltas i d → at ≤ length old
    → end ≡ at + length (delta_record d) → new ≡ put_at old at (delta_record d) → take at old ≡ flat_map delta_record (take i deltas)
    → take end new ≡ flat_map delta_record (take (i + 1) deltas)
records_step deltas d old new i at end inside is room end_is new_is front =
    ap (λ (l : List ℕ). take end l) new_is
    ∙ take-put_at old (delta_record d) at end room end_is
    ∙ ap (λ (l : List ℕ). l ++ delta_record d) front
    ∙ record_more deltas d i inside is

-- and the commit record after them
pub commit_behind : (deltas : List Delta) (tid count : ℕ) (old new : List ℕ) (at end : ℕ) → count ≡ length deltas → at ≤ length old → end ≡ at + 16
    → new ≡ put_at old at (commit_record tid count) → take at old ≡ flat_map delta_record deltas → take end new ≡ records_of deltas tid
commit_behind deltas tid count old new at end count_is room end_is new_is front =
    ap (λ (l : List ℕ). take end l) new_is
    ∙ take-put_at old (commit_record tid count) at end room end_is
    ∙ ap (λ (l : List ℕ). l ++ commit_record tid count) front
    ∙ ap (λ (n : ℕ). flat_map delta_record deltas ++ commit_record tid n) count_is
