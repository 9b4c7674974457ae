-- A transaction as it is written to the log.
use Rattle.std.specs.Prelude.{◌≡◌, ◌≤◌, ℕ, ◌+◌, ◌-◌, ◌*◌, ◌/◌, true, List, ◌++◌, length, map, replicate, All, AllPairs}
use Rattle.std.specs.List.{flat_map}
use Rattle.lufs_base.specs.Fields.{field_bytes}
use Rattle.lufs_base.specs.Layout.{payload_size}
use Rattle.lufs_base.specs.declared.geometry.Geometry.{Geometry}
use Rattle.lufs_base.specs.declared.delta.Delta.{Delta}
use Rattle.volume_model.specs.declared.log.Trailer.{Trailer}
use Rattle.volume_model.specs.Format.{pieces_of}
use Rattle.volume_model.specs.Log.LogRecord.{type_of, commit_type, logged_len, delta_bytes, may_be_logged, may_precede}
use Rattle.volume_model.specs.Log.LogTrailer.{trailer_bytes}

-- the deltas may be those of one transaction
pub record AreLoggable (g : Geometry) (deltas : List Delta) : Type 0 where
  pub table : All (λ d. may_be_logged g d.kind d.home d.len ≡ true) deltas
  pub order : AllPairs (λ d later. may_precede d later.kind later.home ≡ true) deltas
  pub bytes : All (λ d. length d.bytes ≡ logged_len d.kind d.len) deltas

-- the sectors of a transaction with so many bytes of deltas, whose commit record of 16 bytes follows them
abbrev pub sectors_for : (bytes : ℕ) → ℕ
sectors_for bytes = (bytes + 16 + (payload_size - 1)) / payload_size

-- the sectors that their records take, the commit record among them
abbrev pub tx_sectors : List Delta → ℕ
tx_sectors deltas = sectors_for (delta_bytes deltas)

-- Of a ring of so many sectors these are used by transactions and by the sealed one, and the running one would have so
-- many bytes with this need: it has room.
abbrev pub Fits : (ring used sealed pending need : ℕ) → Type 0
Fits ring used sealed pending need = used + sealed + sectors_for (pending + need) ≤ ring

-- the first bytes of a record
abbrev pub record_head : (home len type : ℕ) → List ℕ
record_head home len type = field_bytes 8 home ++ (field_bytes 4 len ++ field_bytes 4 type)

abbrev pub delta_record : Delta → List ℕ
delta_record d = record_head d.home d.len (type_of d.kind) ++ d.bytes

-- the commit record after so many deltas
abbrev pub commit_record : (tid count : ℕ) → List ℕ
commit_record tid count = record_head tid count commit_type

abbrev pub records_of : List Delta → (tid : ℕ) → List ℕ
records_of deltas tid = flat_map delta_record deltas ++ commit_record tid (length deltas)

-- the records, and zeros to the end of the last sector's payload
abbrev pub tx_payload : List Delta → (tid : ℕ) → List ℕ
tx_payload deltas tid = records_of deltas tid ++ replicate (payload_size * tx_sectors deltas - length (records_of deltas tid)) 0

-- the log sectors that carry a payload
unfoldable pub carrying : Trailer → List ℕ → List ℕ
carrying trailer payload = flat_map (λ piece. piece ++ trailer_bytes trailer) (pieces_of payload_size payload)

-- the sectors of transaction tid, one by one
abbrev pub tx_row : List Delta → (tid ident : ℕ) → List (List ℕ)
tx_row deltas tid ident =
    map (λ piece. piece ++ trailer_bytes (record { tid = tid; ident = ident })) (pieces_of payload_size (tx_payload deltas tid))

-- their bytes
abbrev pub tx_bytes : List Delta → (tid ident : ℕ) → List ℕ
tx_bytes deltas tid ident = carrying (record { tid = tid; ident = ident }) (tx_payload deltas tid)
