use Rattle.std.proofs.Common.{◌+◌, ◌*◌, ◌++◌, length, drop, subst, arith, length-take, length-drop, length-append}
use Rattle.lufs_base.specs.declared.geometry.Geometry.{Geometry}
use Rattle.volume_model.specs.Format.{inodes_of}
use Rattle.meta_store.specs.declared.error.StoreError.TheVariants.{Disk}
use Rattle.fsck_core.specs.declared.stop.Stop.TheVariants.{Failed}
use Rattle.sector_disk.proofs.MadeCalls.{none_then}
use Rattle.fsck_core.specs.Inodes.{AreKept, HasKept}
use Rattle.fsck_core.proofs.StoreSteps.{unchanged_then}
use Rattle.fsck_core.proofs.TableLoop.{table_more, table_stopped, fails_last, error_back, error_on}
use Rattle.fsck_core.proofs.records.read_inodes.Goals as goal

pub returns-in_err-read_table-clause-part : goal.returns-in_err-read_table-clause-part
returns-in_err-read_table-clause-part g c =
    let l = c.loop-n in
    table_stopped (λ h blocks k. AreKept h blocks (inodes_of h) k.briefs.items k.unsettled.items k.claims) (g.S.MetaRead.store c.args.store.now) (g.S.MetaRead.store l.store) l.n l.inodes c.read_table.new.inodes
    c.in_err-read_table.field-0.0 c.from_residual-in_err-read_table.result l.invariant.unchanged c.requires.groups l.invariant.kept c.in_err-read_table.ensures.part
    c.from_residual-in_err-read_table.ensures.1

pub returns-in_err-read_table-clause-failure : goal.returns-in_err-read_table-clause-failure
returns-in_err-read_table-clause-failure g c =
    let result = c.from_residual-in_err-read_table.result in
    let stop = c.in_err-read_table.field-0.0 in
    let given = c.from_residual-in_err-read_table.ensures.1 in
    fails_last c.loop-n.invariant.none_failed (error_back result stop (Failed Disk) given) (error_on result stop (Failed Disk) given) c.in_err-read_table.ensures.failure

pub loop-n-preserved : goal.loop-n-preserved
loop-n-preserved g c =
    let old = g.S.MetaRead.store c.args.store.now in
    let l = c.loop-n in
    let out = c.read_table.new.table in
    let ensures = c.in_ok-read_table.ensures in
    record {
      size = omega (arith, length-take l.table.len (out ++ drop (length out) l.table.items), length-append out (drop (length out) l.table.items), length-drop (length out) l.table.items, c.read_table.auto.table, c.deref_mut.ensures.len, l.invariant.size);
      kept = table_more old (g.S.MetaRead.store l.store) l.n l.inodes c.read_table.new.inodes c.in_ok-read_table.field-0 l.invariant.unchanged c.requires.groups l.invariant.kept ensures.part;
      room = subst (λ (h : Geometry). HasKept h ((l.n + 1) * h.ipg) c.read_table.new.inodes.briefs.items c.read_table.new.inodes.unsettled.items c.read_table.new.inodes.claims) l.invariant.unchanged.geometry ensures.room;
      unchanged = unchanged_then l.invariant.unchanged ensures.unchanged;
      none_failed = none_then l.invariant.none_failed (ensures.failure.none (λ never. cc));
    }
