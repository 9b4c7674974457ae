-- Small logs, to compute the definitions on: epoch 3, head 0, and transaction 1 in ring place 0, which writes the root's
-- inode record. And a record of a disk of two sectors, and small replays.
use Rattle.std.specs.Prelude.{ℕ, ◌+◌, ◌==◌, if◌then◌else◌, List, [], ◌∷◌, ◌++◌, length, replicate}
use Rattle.lufs_base.specs.Fields.{field_bytes}
use Rattle.lufs_base.specs.declared.delta.DeltaKind.TheVariants.{Inode, Zero, LinkText, Cancel}
use Rattle.volume_model.specs.declared.device_call.DeviceCall.TheVariants.{Write, Flush}
use Rattle.volume_model.specs.declared.log.Header.{Header}
use Rattle.volume_model.specs.declared.log.Tx.{Tx}
use Rattle.lufs_base.specs.declared.delta.Delta.{Delta}
use Rattle.volume_model.specs.Log.{Log, log_with}
use Rattle.volume_model.specs.Crash.{Record}
use Rattle.volume_model.specs.Worked.{smallest, head_of, log_sector, empty_sector}

abbrev pub superblock : List ℕ
superblock =
    field_bytes 4 0x00011954 ++ field_bytes 4 1 ++ field_bytes 4 1 ++ field_bytes 4 64 ++ field_bytes 4 32 ++ field_bytes 4 256 ++ field_bytes 4 99
    ++ replicate 484 0

abbrev pub header : Header
header = record { epoch = 3; head = 0; tid = 1 }

abbrev pub worked_header : List ℕ
worked_header = field_bytes 4 0x4C554653 ++ field_bytes 4 3 ++ field_bytes 4 0 ++ field_bytes 4 1 ++ replicate 496 0

-- the root's inode record: mode 700, two links
abbrev pub root_record : List ℕ
root_record = 0x41 ∷ 0xc0 ∷ 0 ∷ 2 ∷ replicate 124 0

-- the root's record with this type, and what follows it
abbrev pub root_delta : (type : ℕ) → List ℕ
root_delta type = head_of 0x24100 128 type ++ root_record

-- the first sector of a transaction that goes on: a chunk that the sector's payload cuts short
abbrev pub cut_chunk : List ℕ
cut_chunk = head_of 0x26000 512 3 ++ replicate 488 1

abbrev pub commit : List ℕ
commit = head_of 1 1 8

-- the ring whose place 0 holds this sector, and zeros elsewhere
abbrev pub ring_with : List ℕ → ℕ → List ℕ
ring_with first place = if place == 0 then first else replicate 512 0

abbrev pub log_of_sector : List ℕ → Log
log_of_sector first = log_with smallest worked_header (ring_with first)

-- a chunk's transaction in the last place of the ring and in the first one
abbrev pub wrapped_ring : ℕ → List ℕ
wrapped_ring place =
    if place == 254 then log_sector cut_chunk 1 3 else (if place == 0 then log_sector (replicate 24 1 ++ commit) 1 3 else replicate 512 0)

-- a transaction in the last place, and the next one in the first place
abbrev pub turned_ring : ℕ → List ℕ
turned_ring place = if place == 254 then empty_sector 1 3 else (if place == 0 then empty_sector 2 3 else replicate 512 0)

-- each place has the sector of another transaction, from 1 on
abbrev pub full_ring : ℕ → List ℕ
full_ring place = empty_sector (place + 1) 3

abbrev pub header_with : (head tid : ℕ) → List ℕ
header_with head tid = field_bytes 4 0x4C554653 ++ field_bytes 4 3 ++ field_bytes 4 head ++ field_bytes 4 tid ++ replicate 496 0

abbrev pub root_tx : Tx
root_tx = record {
  tid = 1;
  first = 0;
  sectors = 1;
  deltas = record { kind = Inode; home = 0x24100; len = 128; bytes = root_record } ∷ [];
}

-- a sector that one byte fills
abbrev pub filled : ℕ → List ℕ
filled byte = replicate 512 byte

-- Sector 0 is written and the disk is flushed. Then both sectors are written, and the second one once more.
abbrev pub two_sectors : Record
two_sectors = record {
  opening = filled 0 ++ filled 1;
  calls = Write 0 (filled 7) ∷ Flush ∷ Write 0 (filled 8 ++ filled 9) ∷ Write 1 (filled 10) ∷ [];
}

-- a link text in block 0
abbrev pub text_at_0 : List ℕ → Delta
text_at_0 bytes = record { kind = LinkText; home = 0; len = length bytes; bytes = bytes }

abbrev pub zero_block_0 : Delta
zero_block_0 = record { kind = Zero; home = 0; len = 4096; bytes = [] }

abbrev pub cancel_0 : Delta
cancel_0 = record { kind = Cancel; home = 0; len = 4096; bytes = [] }

abbrev pub tx_of : (tid : ℕ) → List Delta → Tx
tx_of tid deltas = record { tid = tid; first = tid; sectors = 1; deltas = deltas }
