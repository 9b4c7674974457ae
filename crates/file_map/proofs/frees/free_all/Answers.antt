use Rattle.std.proofs.Common.{◌≡◌, ◌<◌, ◌≤◌, ℕ, List, refl, ap, subst, ◌∙◌, arith, rules}
use Rattle.lufs_base.specs.declared.geometry.Geometry.{Geometry}
use Rattle.sector_disk.proofs.MadeCalls.{none_then}
use Rattle.meta_store.specs.declared.change.Freed.{Freed}
use Rattle.file_map.specs.Freed.{metadata_among}
use Rattle.file_map.proofs.GroupShares.{share, all_left, metadata_divided}
use Rattle.file_map.proofs.GivenShares.{BackTo, back_begins, back_more, back_ends, share_passes, share_by, step_back}
use Rattle.file_map.proofs.StoreKept.{unchanged_then, kept_then}
use Rattle.file_map.proofs.frees.free_all.Goals as goal

pub loop-n-init : goal.loop-n-init
loop-n-init g c =
    let told = g.S.MetaRead.store c.args.store.now in
    record {
      back = back_begins told.content told.geometry c.args.draft.now.change c.args.inode c.args.freed.now;
      taken = refl;
      growth = omega (arith, ap metadata_among (all_left told.geometry c.args.freed.now));
      unchanged = search rules;
      kept = search rules;
      none_failed = search rules;
    }

pub free_in_group-requires-clause-blocks : goal.free_in_group-requires-clause-blocks
free_in_group-requires-clause-blocks g c =
    let told = g.S.MetaRead.store c.args.store.now in
    let l = c.loop-n in
    share_passes told.geometry c.geometry.result.now (g.S.MetaRead.store l.store).geometry l.n c.args.freed.now c.in_ok-share.share.items c.deref.result.now c.geometry.ensures.value
    l.invariant.unchanged.geometry c.in_ok-share.ensures c.deref.ensures.value

pub returns-in_err-free_in_group-clause-growth : goal.returns-in_err-free_in_group-clause-growth
returns-in_err-free_in_group-clause-growth g c =
    let told = g.S.MetaRead.store c.args.store.now in
    let l = c.loop-n in
    let freed = c.args.freed.now in
    let part : c.deref.result.now ≡ share told.geometry l.n freed =
    share_by told.geometry c.geometry.result.now l.n freed c.in_ok-share.share.items c.deref.result.now c.geometry.ensures.value c.in_ok-share.ensures c.deref.ensures.value in
    omega (
      arith,
      l.invariant.growth,
      c.in_err-free_in_group.ensures.growth,
      ap metadata_among part,
      metadata_divided told.geometry l.n freed,
      c.loop-n-test.true,
      ap (λ (h : Geometry). h.groups) c.geometry.ensures.value,
    )

pub loop-n-preserved : goal.loop-n-preserved
loop-n-preserved g c =
    let told = g.S.MetaRead.store c.args.store.now in
    let l = c.loop-n in
    let now = g.S.MetaRead.store l.store in
    let old = c.args.draft.now.change in
    let new = c.free_in_group.new.draft.change in
    let inode = c.args.inode in
    let freed = c.args.freed.now in
    let part : c.deref.result.now ≡ share told.geometry l.n freed =
    share_by told.geometry c.geometry.result.now l.n freed c.in_ok-share.share.items c.deref.result.now c.geometry.ensures.value c.in_ok-share.ensures c.deref.ensures.value in
    record {
      back = back_more told.content told.geometry l.n old l.draft.change new inode freed l.invariant.back
          (step_back told.content now.content told.geometry c.geometry.result.now now.geometry l.draft.change new l.n inode c.inode_in.result freed c.deref.result.now
          l.invariant.unchanged.content l.invariant.unchanged.geometry c.geometry.ensures.value c.inode_in.ensures part c.in_ok-free_in_group.ensures.back);
      taken = c.in_ok-free_in_group.ensures.taken ∙ l.invariant.taken;
      growth = omega (arith, l.invariant.growth, c.in_ok-free_in_group.ensures.growth, ap metadata_among part, metadata_divided told.geometry l.n freed);
      unchanged = unchanged_then l.invariant.unchanged c.in_ok-free_in_group.ensures.unchanged;
      kept = kept_then l.invariant.kept c.in_ok-free_in_group.ensures.kept;
      none_failed = none_then l.invariant.none_failed (c.in_ok-free_in_group.ensures.failure.none (λ other. absurd (cc)));
    }

pub returns-clause-back : goal.returns-clause-back
returns-clause-back g c =
    let told = g.S.MetaRead.store c.args.store.now in
    let l = c.loop-n in
    let old = c.args.draft.now.change in
    let end : l.n ≡ told.geometry.groups = omega (arith, l.auto.n-end, c.loop-n-test.false, ap (λ (h : Geometry). h.groups) c.geometry.ensures.value) in
    back_ends told.content told.geometry old l.draft.change c.args.inode c.args.freed.now
    (subst (λ (n : ℕ). BackTo told.content told.geometry n old l.draft.change c.args.inode c.args.freed.now) end l.invariant.back)
