use Rattle.std.proofs.Common.{◌≡◌, ◌≤◌, ◌*◌, take}
use Rattle.std.specs.Prelude.{sum_by}
use Rattle.block_alloc.specs.Records.{clear_blocks_in_record}
use Rattle.block_alloc.proofs.records.clear_blocks.Given as goal

-- those of the records so far
abbrev pub invariant-loop-found : goal.invariant-loop-found
invariant-loop-found l = record {
  value : l.count ≡ sum_by (clear_blocks_in_record l.g) (take l.found-index l.records);
  most : l.count ≤ 2048 * l.found-index;
}
