use Rattle.std.proofs.Common.{◌≡◌, ◌≤◌, ◌+◌, ◌-◌, ◌++◌, ℕ, length, slice_index}
use Rattle.std.specs.Prelude.{nat_le, if◌then◌else◌, []}
use Rattle.file_map.specs.Cut.{lost}
use Rattle.file_map.proofs.sizes.lost.Given as goal

-- the pointer block, and the blocks at the indexes so far
abbrev pub invariant-loop-index : goal.invariant-loop-index
invariant-loop-index l = record {
  from : l.kept ≤ l.index;
  list : l.list.items ≡ lost l.d l.numbers l.kept l.index;
  few : length l.list.items ≤ 1 + (l.index - l.kept);
}
