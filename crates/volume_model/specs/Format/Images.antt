-- The content of a disk: sectors of 512 bytes, one after the other. A block is eight sectors.
use Rattle.std.specs.Prelude.{ℕ, ◌+◌, ◌*◌, ◌/◌, List, ◌++◌, length, take, drop, map}
use Rattle.std.specs.List.{range_with_len}
use Rattle.lufs_base.specs.Layout.{sector_size}

abbrev pub Image : Type 0
Image = List ℕ

-- how many sectors the image has
abbrev pub sectors_of : Image → ℕ
sectors_of image = length image / sector_size

-- n sectors from sector `first` on
abbrev pub sectors_from : Image → ℕ → ℕ → List ℕ
sectors_from image first n = take (sector_size * n) (drop (sector_size * first) image)

-- one sector
abbrev pub sector : Image → ℕ → List ℕ
sector image k = sectors_from image k 1

-- one block
abbrev pub block : Image → ℕ → List ℕ
block image b = sectors_from image (8 * b) 8

-- the bytes in pieces of n, one after the other
abbrev pub pieces_of : ℕ → List ℕ → List (List ℕ)
pieces_of n bytes = map (λ k. take n (drop (n * k) bytes)) (range_with_len 0 (length bytes / n))

-- the sectors of these bytes
abbrev pub sectors_in : List ℕ → List (List ℕ)
sectors_in bytes = map (sector bytes) (range_with_len 0 (sectors_of bytes))

-- the image with these bytes from sector `first` on
abbrev pub overwritten : Image → ℕ → List ℕ → Image
overwritten image first bytes = take (sector_size * first) image ++ (bytes ++ drop (sector_size * first + length bytes) image)
