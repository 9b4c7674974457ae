use Rattle.fsck_core.specs.Bits.{BlocksAgree}
use Rattle.fsck_core.proofs.bits.blocks_agree.Given as goal

-- those so far agree
abbrev pub invariant-loop-k : goal.invariant-loop-k
invariant-loop-k l = BlocksAgree l.g l.n l.group l.claims l.k
