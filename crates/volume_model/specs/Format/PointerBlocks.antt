-- A pointer block: 1,024 block numbers of four bytes.
use Rattle.std.specs.Prelude.{ℕ, ◌*◌, List, map}
use Rattle.std.specs.List.{range_with_len}
use Rattle.lufs_base.specs.Fields.{u32_at}
use Rattle.volume_model.specs.Format.InodeRecords.{numbers_bytes}

-- the numbers of a pointer block, 0 for none
abbrev pub pointers_of : List ℕ → List ℕ
pointers_of bytes = map (λ i. u32_at bytes (4 * i)) (range_with_len 0 1024)

-- the bytes of the numbers
abbrev pub pointer_bytes : List ℕ → List ℕ
pointer_bytes numbers = numbers_bytes numbers
