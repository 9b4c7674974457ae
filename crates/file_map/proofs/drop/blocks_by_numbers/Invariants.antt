use Rattle.std.proofs.Common.{◌≡◌, ◌++◌, true, not, slice_index}
use Rattle.volume_model.specs.Format.{is_file}
use Rattle.file_map.specs.Dropped.{freed_block, freed_indexes}
use Rattle.file_map.proofs.drop.blocks_by_numbers.Given as goal

-- the pointer block, and the blocks at the indexes so far
abbrev pub invariant-loop-k : goal.invariant-loop-k
invariant-loop-k l = l.list.items ≡ freed_block true (slice_index l.d.indirect 0) ++ freed_indexes (not (is_file l.d.mode)) l.numbers l.k
