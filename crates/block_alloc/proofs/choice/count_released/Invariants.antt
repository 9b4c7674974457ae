use Rattle.std.proofs.Common.{◌≡◌, ◌≤◌}
use Rattle.std.specs.List.{count_by, range_with_len}
use Rattle.block_alloc.specs.Records.{may_give}
use Rattle.block_alloc.proofs.choice.count_released.Given as goal

-- those of the blocks so far
abbrev pub invariant-loop-b : goal.invariant-loop-b
invariant-loop-b g l = record {
  value : l.count ≡ count_by (may_give (g.S.MetaRead.store l.store).geometry l.records (g.S.MetaRead.changing l.store).is_released) (range_with_len 0 l.b);
  most : l.count ≤ l.b;
}
