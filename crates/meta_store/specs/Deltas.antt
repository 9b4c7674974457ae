-- The deltas of the parts of a volume, by where these parts lie. Addresses and lengths are in bytes.
use Rattle.std.specs.Prelude.{ℕ, ◌+◌, ◌*◌, List, [], length}
use Rattle.lufs_base.specs.Layout.{group_start, inode_address}
use Rattle.lufs_base.specs.declared.geometry.Geometry.{Geometry}
use Rattle.lufs_base.specs.declared.delta.Delta.{Delta}
use Rattle.lufs_base.specs.declared.delta.DeltaKind.TheVariants.{Group, Inode, Chunk, Pointers, Zero, LinkText, Cancel}

-- the record of group n
abbrev pub group_delta : Geometry → (n : ℕ) → List ℕ → Delta
group_delta g n bytes = record { kind = Group; home = 4096 * group_start g n; len = 416; bytes = bytes }

-- the record of inode i
abbrev pub inode_delta : Geometry → (i : ℕ) → List ℕ → Delta
inode_delta g i bytes = record { kind = Inode; home = inode_address g i; len = 128; bytes = bytes }

-- chunk k of block b, of the eight that a block has
abbrev pub chunk_delta : (b k : ℕ) → List ℕ → Delta
chunk_delta b k bytes = record { kind = Chunk; home = 4096 * b + 512 * k; len = 512; bytes = bytes }

-- the numbers of pointer block b from entry j on
abbrev pub pointers_delta : (b j : ℕ) → List ℕ → Delta
pointers_delta b j bytes = record { kind = Pointers; home = 4096 * b + 4 * j; len = length bytes; bytes = bytes }

-- block b with zeros
abbrev pub zero_delta : ℕ → Delta
zero_delta b = record { kind = Zero; home = 4096 * b; len = 4096; bytes = [] }

-- the text of a link, in block b
abbrev pub text_delta : (b : ℕ) → List ℕ → Delta
text_delta b bytes = record { kind = LinkText; home = 4096 * b; len = length bytes; bytes = bytes }

-- block b, whose older deltas are void
abbrev pub cancel_delta : ℕ → Delta
cancel_delta b = record { kind = Cancel; home = 4096 * b; len = 4096; bytes = [] }
