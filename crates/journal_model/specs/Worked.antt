-- Small journals of the smallest volume, to compute the definitions on: one with what a new file in the root takes, and one
-- in which a directory's block is freed.
use Rattle.std.specs.Prelude.{ℕ, ◌==◌, true, false, nat_lt, if◌then◌else◌, List, [], ◌∷◌, replicate, slice_index_or}
use Rattle.lufs_base.specs.declared.delta.Delta.{Delta}
use Rattle.lufs_base.specs.declared.delta.DeltaKind.{DeltaKind}
use Rattle.lufs_base.specs.declared.delta.DeltaKind.TheVariants.{Group, Inode, Chunk, Zero, Cancel}
use Rattle.volume_model.specs.declared.log.Header.{Header}
use Rattle.volume_model.specs.declared.log.Tx.{Tx}
use Rattle.volume_model.specs.Log.{Log, log_with, header_bytes, tx_row}
use Rattle.volume_model.specs.Worked.{smallest, ring_of_sectors}
use Rattle.journal_model.specs.Journals.{Batch, Roll, Live, Released, Journal, new_journal}
use Rattle.journal_model.specs.Versions.{running_tx}
use Rattle.journal_model.specs.Changes.{Change}

-- one byte all over the bytes of a delta
abbrev pub delta_of : DeltaKind → (home len byte : ℕ) → Delta
delta_of kind home len byte = record { kind = kind; home = home; len = len; bytes = replicate len byte }

abbrev pub zero_block : (home : ℕ) → Delta
zero_block home = record { kind = Zero; home = home; len = 4096; bytes = [] }

abbrev pub cancelled_block : (home : ℕ) → Delta
cancelled_block home = record { kind = Cancel; home = home; len = 4096; bytes = [] }

-- As mounted: nothing is in the log from this place on; only the root's block, 37, is claimed of the body blocks.
abbrev pub mounted_at : (head tid : ℕ) → Journal
mounted_at head tid = new_journal (record { epoch = 3; head = head; tid = tid }) (λ b. if nat_lt b 38 then Live else Released)

-- what a new file in the root changes: the group's record, two inodes, and the root's chunk
abbrev pub new_file : List Delta
new_file = delta_of Group 143360 416 1 ∷ delta_of Inode 147712 128 2 ∷ delta_of Inode 147840 128 3 ∷ delta_of Chunk 151552 512 4 ∷ []

abbrev pub with_file : (head tid : ℕ) → Journal
with_file head tid = record (mounted_at head tid) { running = new_file }

-- sector i of its transaction
abbrev pub file_sector : (tid i : ℕ) → List ℕ
file_sector tid i = slice_index_or (tx_row new_file tid 3) i []

-- the log with this header, and with these sectors from place 0 on
abbrev pub log_by : Header → List (List ℕ) → Log
log_by h sectors = log_with smallest (header_bytes h) (ring_of_sectors sectors)

-- the transaction from place 254 on, round the end of the ring
abbrev pub file_round_the_end : ℕ → List ℕ
file_round_the_end place = elim (place == 254) [ true ↦ file_sector 253 0 | false ↦ ring_of_sectors (file_sector 253 1 ∷ file_sector 253 2 ∷ []) place ]

-- the file is committed, and a roll has come so far
abbrev pub rolling : Roll → Journal
rolling roll = record (mounted_at 0 1) { committed = running_tx smallest (with_file 0 1) ∷ []; roll = roll }

abbrev pub file_batch : List ℕ → Batch
file_batch left = record { count = 1; held = 35 ∷ 36 ∷ 37 ∷ []; left = left }

-- A directory is made with block 38.
abbrev pub directory_tx : Tx
directory_tx = record { tid = 1; first = 0; sectors = 2; deltas = zero_block 155648 ∷ delta_of Chunk 155648 512 5 ∷ [] }

-- it is removed
abbrev pub removal : Change
removal = record { deltas = cancelled_block 155648 ∷ []; taken = []; freed = 38 ∷ []; given_back = [] }

abbrev pub removal_tx : Tx
removal_tx = record { tid = 2; first = 2; sectors = 1; deltas = removal.deltas }

-- the directory is committed, and block 38 is its
abbrev pub with_directory : Journal
with_directory = record (mounted_at 0 1) { committed = directory_tx ∷ []; owners = λ b. if nat_lt b 39 then Live else Released }
