-- The first sectors of a transaction, without its last one, carry a short run.
use Rattle.std.proofs.Common.{◌≡◌, ℕ, zero, suc, ◌+◌, ◌-◌, ◌*◌, ◌<◌, List, [], ◌∷◌, ◌++◌, length, take, drop, replicate, refl, sym, ap, subst, ◌∙◌, arith, append_assoc, length-take, length-drop}
use Rattle.std.specs.List.{All, flat_map, range_with_len}
use Rattle.std.proofs.lemmas.List.{take_all}
use Rattle.std.proofs.lemmas.List.Elements.{All-head, All-tail, All-map}
use Rattle.std.proofs.lemmas.List.FromFn.{length-range_with_len, get_or-range_with_len}
use Rattle.lufs_base.specs.Layout.{IsGeometry}
use Rattle.lufs_base.specs.declared.geometry.Geometry.{Geometry}
use Rattle.lufs_base.specs.declared.delta.Delta.{Delta}
use Rattle.volume_model.specs.declared.log.Trailer.{Trailer}
use Rattle.volume_model.specs.Format.{sector, sectors_of, sectors_in}
use Rattle.volume_model.specs.Log.{payload_of, Short, run_of, AreLoggable, tx_sectors, delta_record, commit_record, records_of, tx_payload, tx_bytes}
use Rattle.log_laws.proofs.SectorsBack.{payload_back}
use Rattle.log_laws.proofs.TxRead.{payload_long}
use Rattle.log_laws.proofs.TxSize.{length-records_of, records_size}
use Rattle.log_laws.proofs.CutRecords.{take_past, cut_rest}

-- the sector is long enough for a payload
abbrev IsLong : List ℕ → Type 0
IsLong s = length (take 504 s) ≡ 504

payload_front : (j : ℕ) (row : List (List ℕ)) → All IsLong row → payload_of (take j row) ≡ take (504 * j) (payload_of row)
payload_front zero row all = refl
payload_front (suc j) [] all = sym (take_all (504 * suc j) [] (omega arith))
payload_front (suc j) (s ∷ row) all =
    let here : length (take 504 s) ≡ 504 = All-head IsLong s row all in
    let left : 504 * suc j - 504 ≡ 504 * j = omega arith in
    ap (λ (l : List ℕ). take 504 s ++ l) (payload_front j row (All-tail IsLong s row all))
    ∙ ap (λ (k : ℕ). take 504 s ++ take k (payload_of row)) (sym left)
    ∙ sym (take_past 504 (504 * suc j) (take 504 s) (payload_of row) here (omega arith))

sector_long : (bytes : List ℕ) (k : ℕ) → k < sectors_of bytes → IsLong (sector bytes k)
sector_long bytes k below =
    omega (arith, length-take 504 (sector bytes k), length-take 512 (drop (512 * k) bytes), length-drop (512 * k) bytes)

sectors_long : (bytes : List ℕ) → All IsLong (sectors_in bytes)
sectors_long bytes =
    All-map IsLong (sector bytes) (range_with_len 0 (sectors_of bytes)) (λ k d below.
    let inside : k < sectors_of bytes = omega (arith, below, length-range_with_len 0 (sectors_of bytes)) in
    let at : 0 + k ≡ k = omega arith in
    subst (λ (m : ℕ). IsLong (sector bytes m)) (sym (get_or-range_with_len 0 (sectors_of bytes) k d inside ∙ at)) (sector_long bytes k inside))

pub cut_tx : (g : Geometry) (deltas : List Delta) (tid ident j : ℕ) → IsGeometry g → AreLoggable g deltas → j < tx_sectors deltas
    → run_of g tid (payload_of (take j (sectors_in (tx_bytes deltas tid ident)))) ≡ Short
cut_tx g deltas tid ident j is are part =
    let trailer : Trailer = record { tid = tid; ident = ident } in
    let row : List (List ℕ) = sectors_in (tx_bytes deltas tid ident) in
    let zeros = 504 * tx_sectors deltas - length (records_of deltas tid) in
    let ending : List ℕ = commit_record tid (length deltas) ++ replicate zeros 0 in
    let carried : payload_of row ≡ tx_payload deltas tid = payload_back trailer (tx_sectors deltas) (tx_payload deltas tid) (payload_long g deltas tid are) in
    let split : tx_payload deltas tid ≡ flat_map delta_record deltas ++ ending =
    append_assoc (flat_map delta_record deltas) (commit_record tid (length deltas)) (replicate zeros 0) in
    let front : payload_of (take j row) ≡ take (504 * j) (flat_map delta_record deltas ++ ending) =
    payload_front j row (sectors_long (tx_bytes deltas tid ident)) ∙ ap (λ (l : List ℕ). take (504 * j) l) (carried ∙ split) in
    let short : 504 * j < length (flat_map delta_record deltas) + 16 = omega (arith, part, records_size g deltas tid are, length-records_of deltas tid) in
    ap (λ (l : List ℕ). run_of g tid l) front
    ∙ cut_rest g tid (suc (length (take (504 * j) (flat_map delta_record deltas ++ ending)))) (504 * j) [] deltas ending is are short
