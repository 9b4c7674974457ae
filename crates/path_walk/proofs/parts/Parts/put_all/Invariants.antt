use Rattle.std.proofs.Common.{◌≡◌, ◌++◌, ℕ, List, map, vec_len}
use Rattle.path_walk.proofs.parts.Parts.put_all.Given as goal

-- the parts that were taken stand before the others
abbrev pub invariant-loop-part : goal.invariant-loop-part
invariant-loop-part l = record {
  done : List (List ℕ);
  parts : map (λ part. part.now) l.initial.parts.items ≡ map (λ part. part.now) l.parts.items ++ done;
  put : l.self ≡ done ++ l.initial.self;
}

abbrev pub decreases-loop-part : goal.decreases-loop-part
decreases-loop-part l = vec_len l.parts
