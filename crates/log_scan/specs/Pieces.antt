-- Pieces of the ring that were read.
use Rattle.std.specs.Prelude.{◌≡◌, ℕ, ◌+◌, ◌*◌, ◌<◌, ◌≤◌, List, [], length, get_or, Option, IfSome}
use Rattle.lufs_base.specs.declared.geometry.Geometry.{Geometry}
use Rattle.volume_model.specs.Format.{Image, sector}
use Rattle.log_scan.specs.declared.ring.Piece.{Piece}
use Rattle.log_scan.specs.Ring.{ring_in}

-- the piece has these sectors of the ring
abbrev pub IsPieceOf : List (List ℕ) → Piece → Type 0
IsPieceOf ring piece = (k : ℕ) → k < piece.count → sector piece.bytes.items k ≡ get_or ring (piece.first + k) []

-- the piece has sectors of the ring from this head on, where the disk tells its content
pub record Holds (g : Geometry) (head : ℕ) (present : Option Image) (piece : Piece) : Type 0 where
  pub size : length piece.bytes.items ≡ 65536
  pub room : piece.count ≤ 128
  pub sectors : IfSome present (λ image. IsPieceOf (ring_in g head image) piece)

-- sector i is in the piece
abbrev pub Shows : ℕ → Piece → Type 0
Shows i piece = (piece.first ≤ i) × (i < piece.first + piece.count)
