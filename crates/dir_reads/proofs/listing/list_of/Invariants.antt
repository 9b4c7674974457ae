use Rattle.std.proofs.Common.{◌≡◌}
use Rattle.dir_reads.proofs.listing.list_of.Given as goal

-- the names so far are in the list
abbrev pub invariant-loop-name : goal.invariant-loop-name
invariant-loop-name l = l.list ≡ l.yielded
