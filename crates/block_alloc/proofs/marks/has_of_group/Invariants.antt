use Rattle.std.proofs.Common.{◌≡◌, false, take}
use Rattle.std.specs.Prelude.{◌==◌}
use Rattle.std.specs.List.{list_any}
use Rattle.change_laws.specs.Marks.{group_of_block}
use Rattle.block_alloc.proofs.marks.has_of_group.Given as goal

-- none of the blocks so far is of the group
abbrev pub invariant-loop-b : goal.invariant-loop-b
invariant-loop-b l = list_any (λ b. group_of_block l.g b == l.n) (take l.b-index l.b-items) ≡ false
