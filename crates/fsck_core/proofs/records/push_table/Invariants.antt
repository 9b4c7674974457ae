use Rattle.std.proofs.Common.{◌+◌, ◌*◌}
use Rattle.volume_model.specs.Format.{Blocks}
use Rattle.fsck_core.specs.Inodes.{AreKept, HasKept}
use Rattle.fsck_core.specs.Tables.{AreOfGroup}
use Rattle.fsck_core.proofs.records.push_table.Given as goal

-- the inodes of the group so far are kept
abbrev pub invariant-loop-k : goal.invariant-loop-k
invariant-loop-k l = record {
  kept : (blocks : Blocks) → AreOfGroup l.g blocks l.n l.table
      → AreKept l.g blocks (l.n * l.g.ipg) l.fn.inodes.briefs.items l.fn.inodes.unsettled.items l.fn.inodes.claims
      → AreKept l.g blocks (l.n * l.g.ipg + l.k) l.inodes.briefs.items l.inodes.unsettled.items l.inodes.claims;
  room : HasKept l.g (l.n * l.g.ipg + l.k) l.inodes.briefs.items l.inodes.unsettled.items l.inodes.claims;
}
