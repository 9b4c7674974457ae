-- The heads of the records of deltas: what the order of the log and a commit record look at.
use Rattle.std.specs.Prelude.{ℕ, ◌==◌, nat_lt, Bool, true, ◌&&◌, List, [], length, drop, take, Option, Some, None}
use Rattle.lufs_base.specs.Fields.{u32_at, u64_at, are_zeros}
use Rattle.lufs_base.specs.Layout.{payload_size}
use Rattle.lufs_base.specs.declared.delta.Delta.{Delta}
use Rattle.lufs_base.specs.declared.delta.DeltaKind.{DeltaKind}
use Rattle.volume_model.specs.Log.{logged_len, may_precede}
use Rattle.log_format.specs.declared.records.RecordHead.{RecordHead}

abbrev pub head_of : Delta → RecordHead
head_of d = record { kind = d.kind; home = d.home; len = d.len }

-- the delta with this head and no bytes
abbrev pub bare : RecordHead → Delta
bare head = record { kind = head.kind; home = head.home; len = head.len; bytes = [] }

-- the delta with this head whose record stands at the front of the bytes
abbrev pub delta_at : RecordHead → List ℕ → Delta
delta_at head bytes = record { kind = head.kind; home = head.home; len = head.len; bytes = take (logged_len head.kind head.len) (drop 16 bytes) }

-- a delta of this kind and home may stand after the last one, which has this head
abbrev pub may_follow : Option RecordHead → DeltaKind → ℕ → Bool
may_follow None kind home = true
may_follow (Some head) kind home = may_precede (bare head) kind home

-- the commit record after so many deltas stands at the front
abbrev pub is_commit_after : (tid count : ℕ) → List ℕ → Bool
is_commit_after tid count bytes =
    u64_at bytes 0 == tid && u32_at bytes 8 == count && nat_lt (length (drop 16 bytes)) payload_size && are_zeros (drop 16 bytes)
