-- The smallest volume, and small rings of its log.
use Rattle.std.specs.Prelude.{ℕ, List, [], ◌++◌, replicate, take, slice_get, unwrap_or}
use Rattle.lufs_base.specs.Fields.{field_bytes}
use Rattle.lufs_base.specs.declared.geometry.Geometry.{Geometry}
use Rattle.volume_model.specs.declared.log.Tx.{Tx}

-- one group of 64 blocks and 32 inodes, and a log of 256 sectors
abbrev pub smallest : Geometry
smallest = record { version = 1; groups = 1; bpg = 64; ipg = 32; log = 256 }

abbrev pub head_of : (home len type : ℕ) → List ℕ
head_of home len type = field_bytes 8 home ++ field_bytes 4 len ++ field_bytes 4 type

-- a sector of the log
abbrev pub log_sector : (payload : List ℕ) → (tid ident : ℕ) → List ℕ
log_sector payload tid ident = take 504 (payload ++ replicate 504 0) ++ field_bytes 4 tid ++ field_bytes 4 ident

-- the ring whose places hold these sectors from place 0 on, and zeros after them
abbrev pub ring_of_sectors : List (List ℕ) → ℕ → List ℕ
ring_of_sectors sectors place = unwrap_or (slice_get sectors place) (replicate 512 0)

-- the sector of transaction tid without deltas
abbrev pub empty_sector : (tid ident : ℕ) → List ℕ
empty_sector tid ident = log_sector (head_of tid 0 8) tid ident

abbrev pub empty_tx : (tid first : ℕ) → Tx
empty_tx tid first = record { tid = tid; first = first; sectors = 1; deltas = [] }
