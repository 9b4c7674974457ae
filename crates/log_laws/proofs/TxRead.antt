-- A transaction is read back from the sectors that it is written as.
use Rattle.std.proofs.Common.{◌≡◌, ℕ, suc, ◌+◌, ◌-◌, ◌*◌, ◌^◌, ◌<◌, ◌≤◌, true, List, [], ◌∷◌, ◌++◌, length, replicate, ap, ◌∙◌, arith, append_assoc, length-append}
use Rattle.std.specs.List.{All, flat_map}
use Rattle.std.proofs.lemmas.List.{length-replicate}
use Rattle.lufs_base.specs.Layout.{IsGeometry}
use Rattle.lufs_base.specs.declared.geometry.Geometry.{Geometry}
use Rattle.lufs_base.specs.declared.delta.Delta.{Delta}
use Rattle.volume_model.specs.declared.log.Trailer.{Trailer}
use Rattle.volume_model.specs.Format.{sectors_in}
use Rattle.volume_model.specs.Log.{belongs_to, payload_of, delta_bytes, Whole, run_of, run_after, AreLoggable, tx_sectors, delta_record, commit_record, records_of, tx_payload, tx_row, tx_bytes}
use Rattle.log_laws.proofs.SectorsBack.{payload_back, row_back, carrying_size, trailers_back}
use Rattle.log_laws.proofs.RunRead.{run_rest}
use Rattle.log_laws.proofs.TxSize.{length-records_of, few_deltas, records_size}

pub payload_long : (g : Geometry) (deltas : List Delta) (tid : ℕ) → AreLoggable g deltas → length (tx_payload deltas tid) ≡ 504 * tx_sectors deltas
payload_long g deltas tid are =
    let zeros = 504 * tx_sectors deltas - length (records_of deltas tid) in
    omega (arith, length-append (records_of deltas tid) (replicate zeros 0), length-replicate {A = ℕ} zeros 0, records_size g deltas tid are)

-- each delta takes a byte
fewer_than_bytes : (deltas : List Delta) → length deltas ≤ length (flat_map delta_record deltas)
fewer_than_bytes [] = omega arith
fewer_than_bytes (d ∷ rest) = omega (arith, fewer_than_bytes rest, length-append d.bytes (flat_map delta_record rest), length-append (delta_record d) (flat_map delta_record rest))

pub tx_reads : (g : Geometry) (deltas : List Delta) (tid ident : ℕ) → IsGeometry g → AreLoggable g deltas → tid < 2 ^ 32
    → run_of g tid (payload_of (sectors_in (tx_bytes deltas tid ident))) ≡ Whole deltas
tx_reads g deltas tid ident is are low =
    let trailer : Trailer = record { tid = tid; ident = ident } in
    let records : List ℕ = records_of deltas tid in
    let size : length (records_of deltas tid) ≡ delta_bytes deltas + 16 = records_size g deltas tid are in
    let zeros = 504 * tx_sectors deltas - length records in
    let split : tx_payload deltas tid ≡ flat_map delta_record deltas ++ (commit_record tid (length deltas) ++ replicate zeros 0) =
    append_assoc (flat_map delta_record deltas) (commit_record tid (length deltas)) (replicate zeros 0) in
    let room : length deltas < suc (length (tx_payload deltas tid)) =
    omega (arith, fewer_than_bytes deltas, length-records_of deltas tid, length-append (records_of deltas tid) (replicate zeros 0)) in
    ap (λ (l : List ℕ). run_of g tid l) (payload_back trailer (tx_sectors deltas) (tx_payload deltas tid) (payload_long g deltas tid are))
    ∙ ap (λ (l : List ℕ). run_after g tid (suc (length (tx_payload deltas tid))) [] l) split
    ∙ run_rest g tid (suc (length (tx_payload deltas tid))) zeros [] deltas is are room low (few_deltas g deltas is are) (omega (arith, size))

pub tx_trailers : (g : Geometry) (deltas : List Delta) (tid ident : ℕ) → AreLoggable g deltas → tid < 2 ^ 32 → ident < 2 ^ 32
    → All (λ s. belongs_to ident tid s ≡ true) (sectors_in (tx_bytes deltas tid ident))
tx_trailers g deltas tid ident are tid_low ident_low =
    trailers_back (record { tid = tid; ident = ident }) tid_low ident_low (tx_sectors deltas) (tx_payload deltas tid) (payload_long g deltas tid are)

pub tx_size : (g : Geometry) (deltas : List Delta) (tid ident : ℕ) → AreLoggable g deltas → length (tx_bytes deltas tid ident) ≡ 512 * tx_sectors deltas
tx_size g deltas tid ident are =
    omega (arith, payload_long g deltas tid are, carrying_size (record { tid = tid; ident = ident }) (tx_sectors deltas) (tx_payload deltas tid) (payload_long g deltas tid are))

pub tx_one_by_one : (g : Geometry) (deltas : List Delta) (tid ident : ℕ) → AreLoggable g deltas → sectors_in (tx_bytes deltas tid ident) ≡ tx_row deltas tid ident
tx_one_by_one g deltas tid ident are =
    row_back (record { tid = tid; ident = ident }) (tx_sectors deltas) (tx_payload deltas tid) (payload_long g deltas tid are)
