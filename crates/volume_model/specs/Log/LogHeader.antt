-- The header of the log: sector 24 of the volume.
use Rattle.std.specs.Prelude.{ℕ, ◌==◌, ◌<◌, ◌≤◌, ◌^◌, ◌++◌, nat_le, nat_lt, ◌&&◌, if◌then◌else◌, Bool, List, drop, replicate, Option, Some, None}
use Rattle.lufs_base.specs.Fields.{u32_at, field_bytes, are_zeros}
use Rattle.lufs_base.specs.Layout.{ring_of}
use Rattle.lufs_base.specs.declared.geometry.Geometry.{Geometry}
use Rattle.volume_model.specs.declared.log.Header.{Header}

-- the numbers that a sector names
abbrev pub named_header : List ℕ → Header
named_header s = record { epoch = u32_at s 4; head = u32_at s 8; tid = u32_at s 12 }

abbrev pub is_header : Geometry → List ℕ → Bool
is_header g s =
    u32_at s 0 == 0x4C554653 && are_zeros (drop 16 s) && nat_le 1 (u32_at s 4) && nat_lt (u32_at s 8) (ring_of g) && nat_le 1 (u32_at s 12)

-- the header that a sector is
unfoldable pub header_of : Geometry → List ℕ → Option Header
header_of g s = if is_header g s then Some (named_header s) else None

-- the numbers that a header may have
pub record MayBeHeader (g : Geometry) (h : Header) : Type 0 where
  pub epoch_low : 1 ≤ h.epoch
  pub epoch_high : h.epoch < 2 ^ 32
  pub head_low : h.head < ring_of g
  pub head_high : h.head < 2 ^ 32
  pub tid_low : 1 ≤ h.tid
  pub tid_high : h.tid < 2 ^ 32

-- the sector that a header is written as
unfoldable pub header_bytes : Header → List ℕ
header_bytes h =
    field_bytes 4 0x4C554653 ++ (field_bytes 4 h.epoch ++ (field_bytes 4 h.head ++ (field_bytes 4 h.tid ++ replicate 496 0)))
