-- The trailer of a log sector: its last 8 bytes, after 504 bytes of payload.
use Rattle.std.specs.Prelude.{List, ℕ, ◌+◌, ◌++◌}
use Rattle.lufs_base.specs.Fields.{u32_at, field_bytes}
use Rattle.lufs_base.specs.Layout.{payload_size}
use Rattle.volume_model.specs.declared.log.Trailer.{Trailer}

-- the trailer of a sector
abbrev pub trailer_of : List ℕ → Trailer
trailer_of s = record { tid = u32_at s payload_size; ident = u32_at s (payload_size + 4) }

-- the bytes that a trailer is written as
abbrev pub trailer_bytes : Trailer → List ℕ
trailer_bytes trailer = field_bytes 4 trailer.tid ++ field_bytes 4 trailer.ident
