use Rattle.std.proofs.Common.{◌≡◌, ◌≤◌, ℕ, ◌-◌, eqb, slice_index}
use Rattle.std.specs.List.{filter, range_with_len}
use Rattle.file_map.proofs.block_needs.missing.Given as goal

-- the indexes so far at which the number is 0
abbrev pub invariant-loop-index : goal.invariant-loop-index
invariant-loop-index l = record {
  from : l.first ≤ l.index;
  list : l.list ≡ filter (λ k. eqb (slice_index l.numbers k) 0) (range_with_len l.first (l.index - l.first));
}
