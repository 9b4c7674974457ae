use Rattle.std.proofs.Common.{ℕ, ◌<◌, IfSome}
use Rattle.std.specs.Prelude.{slice_get}
use Rattle.fsck_core.specs.Bits.{BlocksAgree}
use Rattle.fsck_core.proofs.bits.all_blocks_agree.Given as goal

-- those of the groups so far agree
abbrev pub invariant-loop-n : goal.invariant-loop-n
invariant-loop-n l = (m : ℕ) → m < l.n → IfSome (slice_get l.groups m) (λ x. BlocksAgree l.g m x l.claims l.g.bpg)
