use Rattle.std.proofs.Common.{◌≡◌, ◌++◌, map, take}
use Rattle.meta_store.proofs.plain.with_freed.Given as goal

abbrev pub invariant-loop-freed : goal.invariant-loop-freed
invariant-loop-freed l = l.all.items ≡ l.numbers ++ map (λ f. f.block.0) (take l.freed-index l.freed)
