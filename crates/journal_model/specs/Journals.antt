-- The journal of a mounted volume as one value.
use Rattle.std.specs.Prelude.{ℕ, List, [], Option, None}
use Rattle.lufs_base.specs.declared.delta.Delta.{Delta}
use Rattle.volume_model.specs.declared.log.Header.{Header}
use Rattle.volume_model.specs.declared.log.Tx.{Tx}

-- A transaction that is closed and goes to the log, and how many of its sectors are written.
pub record SealedTx : Type 0 where
  pub tx : Tx
  pub written : ℕ

-- The oldest committed transactions, whose deltas are written home together.
pub record Batch : Type 0 where
  -- how many they are
  pub count : ℕ
  -- the blocks that they write
  pub held : List ℕ
  -- those of them that are still to be written
  pub left : List ℕ

-- How far a roll has come: its blocks are being written home; they are all kept there; and the header was written that
-- names the first transaction after the batch.
pub data Roll : Type 0 where
  Idle : Roll
  Writing : Batch → Roll
  Home : Batch → Roll
  Trimmed : Batch → Roll

-- Whose a block is: its bit is set, it may be given out, or this transaction freed it and isn't committed.
pub data Owner : Type 0 where
  Live : Owner
  Released : Owner
  Freed : (tid : ℕ) → Owner

pub record Journal : Type 0 where
  -- the transactions that the log keeps, oldest first
  pub committed : List Tx
  pub sealed : Option SealedTx
  -- the deltas of the transaction that is open, in the order of the log
  pub running : List Delta
  -- the header that names the first of the committed transactions, or else the next one
  pub oldest : Header
  pub roll : Roll
  -- by block
  pub owners : ℕ → Owner
  -- the calls that are inside, and how many bytes they have reserved and not logged
  pub members : ℕ
  pub unspent : ℕ

-- the journal of a log that is empty
abbrev pub new_journal : Header → (ℕ → Owner) → Journal
new_journal h owners = record { committed = []; sealed = None; running = []; oldest = h; roll = Idle; owners = owners; members = 0; unspent = 0 }
