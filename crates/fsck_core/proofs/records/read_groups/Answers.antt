use Rattle.std.proofs.Common.{◌≡◌, ◌++◌, ◌∷◌, [], List, length, IfSome, ap, subst, sym, arith, length-append}
use Rattle.lufs_base.specs.declared.geometry.Geometry.{Geometry}
use Rattle.volume_model.specs.Format.{block}
use Rattle.cyl_groups.specs.declared.group.Group.{Group}
use Rattle.sector_disk.proofs.MadeCalls.{none_then}
use Rattle.fsck_core.specs.Tables.{AreGroups}
use Rattle.fsck_core.proofs.StoreSteps.{unchanged_then}
use Rattle.fsck_core.proofs.RecordLoops.{groups_more, group_missing}
use Rattle.fsck_core.proofs.records.read_groups.Goals as goal

pub loop-n-preserved : goal.loop-n-preserved
loop-n-preserved g c =
    let told = g.S.MetaRead.store c.args.store.now in
    let now = g.S.MetaRead.store c.loop-n.store in
    let l = c.loop-n in
    let x = c.in-Some.group in
    let pushed = c.in_ok-push-in-Some.ensures.items in
    let sized : length c.push.new.self.items ≡ length (l.groups.items ++ x ∷ []) = ap (λ (groups : List Group). length groups) pushed in
    record {
      size = omega (arith, l.invariant.size, length-append l.groups.items (x ∷ []), sized);
      records = subst (λ (groups : List Group). IfSome told.content (λ image. AreGroups told.geometry (block image) groups)) (sym pushed)
          (groups_more told.geometry now.geometry told.content now.content l.groups.items l.n c.in_ok-group.field-0 x l.invariant.unchanged.geometry l.invariant.unchanged.content
          l.invariant.size c.in-Some.is c.in_ok-group.ensures.value l.invariant.records);
      unchanged = unchanged_then l.invariant.unchanged c.in_ok-group.ensures.unchanged;
      none_failed = none_then l.invariant.none_failed c.in_ok-group.ensures.failure;
    }

pub returns-in-None-clause-part : goal.returns-in-None-clause-part
returns-in-None-clause-part g c =
    let told = g.S.MetaRead.store c.args.store.now in
    let now = g.S.MetaRead.store c.loop-n.store in
    let l = c.loop-n in
    let groups : c.geometry-g.result.now.groups ≡ told.geometry.groups = ap (λ (h : Geometry). h.groups) c.geometry-g.ensures.value in
    group_missing told.geometry now.geometry told.content now.content l.groups.items l.n c.in_ok-group.field-0 l.invariant.unchanged.geometry l.invariant.unchanged.content
    l.invariant.size (omega (arith, c.loop-n-test.true, l.auto.n-end, groups)) c.in-None.is c.in_ok-group.ensures.value l.invariant.records
