use Rattle.std.proofs.Common.{◌≡◌, ap, ◌∙◌, arith}
use Rattle.lufs_base.specs.declared.geometry.Geometry.{Geometry}
use Rattle.sector_disk.proofs.MadeCalls.{none_then}
use Rattle.block_alloc.specs.Records.{clear_inodes_in_record, clear_blocks_in_record}
use Rattle.block_alloc.proofs.RecordsRead.{as_before_then}
use Rattle.block_alloc.proofs.Counted.{one_group_clear, all_clear}
use Rattle.block_alloc.proofs.free.count_clear_bits.Goals as goal

pub loop-n-preserved : goal.loop-n-preserved
loop-n-preserved g c =
    let told = g.S.MetaRead.store c.args.store.now in
    let now = g.S.MetaRead.store c.loop-n.store in
    let l = c.loop-n in
    let x = c.in_ok-found.found in
    let groups : c.geometry.result.now.groups ≡ told.geometry.groups = ap (λ (h : Geometry). h.groups) c.geometry.ensures.value in
    record {
      clear = one_group_clear told.geometry now.geometry told.content now.content l.n l.inodes l.blocks _ _ x (omega (arith, c.loop-n-test.true, groups)) l.invariant.same.read.geometry
          l.invariant.same.read.content c.in_ok-found.ensures.value
          (c.count_clear_inodes-inodes.ensures.value ∙ ap (λ (h : Geometry). clear_inodes_in_record h x) c.geometry.ensures.value)
          (c.count_clear_blocks-blocks.ensures.value ∙ ap (λ (h : Geometry). clear_blocks_in_record h x) c.geometry.ensures.value) l.invariant.clear;
      most_inodes = omega (arith, l.invariant.most_inodes, c.count_clear_inodes-inodes.ensures.most);
      most_blocks = omega (arith, l.invariant.most_blocks, c.count_clear_blocks-blocks.ensures.most);
      same = as_before_then l.invariant.same c.in_ok-found.ensures.same;
      none_failed = none_then l.invariant.none_failed c.in_ok-found.ensures.failure;
    }

pub returns-clause-clear : goal.returns-clause-clear
returns-clause-clear g c =
    let told = g.S.MetaRead.store c.args.store.now in
    let l = c.loop-n in
    let groups : c.geometry.result.now.groups ≡ told.geometry.groups = ap (λ (h : Geometry). h.groups) c.geometry.ensures.value in
    all_clear told.geometry told.content l.n l.inodes l.blocks (omega (arith, c.loop-n-test.false, l.auto.n-end, groups)) l.invariant.clear
