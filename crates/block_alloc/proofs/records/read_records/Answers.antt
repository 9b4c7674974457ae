use Rattle.std.proofs.Common.{◌≡◌, ◌+◌, ◌++◌, ◌∷◌, [], List, Option, length, ap, subst, sym, arith, length-append}
use Rattle.cyl_groups.specs.declared.group.Group.{Group}
use Rattle.lufs_base.specs.declared.geometry.Geometry.{Geometry}
use Rattle.sector_disk.proofs.MadeCalls.{none_then}
use Rattle.block_alloc.specs.Records.{IsReadGroup, AreReadGroups}
use Rattle.block_alloc.proofs.RecordsRead.{as_before_then, one_read_group, AreFirst, one_more, all_read}
use Rattle.block_alloc.proofs.records.read_records.Goals as goal

pub loop-n-preserved : goal.loop-n-preserved
loop-n-preserved g c =
    let told = g.S.MetaRead.store c.args.store.now in
    let now = g.S.MetaRead.store c.loop-n.store in
    let l = c.loop-n in
    let x = c.in_ok-found.found in
    let pushed = c.in_ok-push.ensures.items in
    let sized : length c.push.new.self.items ≡ length (l.records.items ++ x ∷ []) = ap (λ (records : List (Option Group)). length records) pushed in
    record {
      size = omega (arith, l.invariant.size, length-append l.records.items (x ∷ []), sized);
      groups = subst (AreReadGroups told.geometry) (sym pushed)
          (one_read_group told.geometry l.records.items l.n x l.invariant.size (subst (λ (h : Geometry). IsReadGroup h l.n x) l.invariant.same.read.geometry c.in_ok-found.ensures.group)
          l.invariant.groups);
      records = subst (λ (records : List (Option Group)). AreFirst told.geometry told.content (l.n + 1) records) (sym pushed)
          (one_more told.geometry now.geometry told.content now.content l.records.items l.n x l.invariant.same.read.geometry l.invariant.same.read.content
          c.in_ok-found.ensures.value l.invariant.records);
      same = as_before_then l.invariant.same c.in_ok-found.ensures.same;
      none_failed = none_then l.invariant.none_failed c.in_ok-found.ensures.failure;
    }

pub returns-clause-records : goal.returns-clause-records
returns-clause-records g c =
    let told = g.S.MetaRead.store c.args.store.now in
    let l = c.loop-n in
    let groups : c.geometry-g.result.now.groups ≡ told.geometry.groups = ap (λ (h : Geometry). h.groups) c.geometry-g.ensures.value in
    all_read told.geometry told.content l.records.items l.n (omega (arith, c.loop-n-test.false, l.auto.n-end, groups)) l.invariant.records
