use Rattle.std.proofs.Common.{◌≡◌, ◌++◌, length}
use Rattle.std.specs.Vec.Iter.{into_iter_items, into_iter_len}
use Rattle.meta_draft.proofs.draft.list_of.Given as goal

abbrev pub invariant-loop-delta : goal.invariant-loop-delta
invariant-loop-delta l = record {
  all : l.list ++ into_iter_items l.delta-iterator ≡ into_iter_items l.initial.delta-iterator;
  left : into_iter_len l.delta-iterator ≡ length (into_iter_items l.delta-iterator);
}
