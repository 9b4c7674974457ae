use Rattle.std.proofs.Common.{◌≡◌, take}
use Rattle.meta_draft.specs.OnBlock.{raw_on}
use Rattle.meta_draft.proofs.blocks.lay_raw.Given as goal

abbrev pub invariant-loop-write : goal.invariant-loop-write
invariant-loop-write l = l.block ≡ raw_on l.b.0 (take l.write-index l.raw) l.initial.block
