use Rattle.std.proofs.Common.{◌≡◌, ◌≤◌, length, ap, ◌∙◌, arith, length-append}
use Rattle.lufs_base.specs.Layout.{blocks_of}
use Rattle.sector_disk.proofs.MadeCalls.{none_then}
use Rattle.plain_image.proofs.ReadBlocks.{told_more, all_told, unchanged_then, kept_then}
use Rattle.plain_image.proofs.read.read_image.Goals as goal

pub loop-b-preserved : goal.loop-b-preserved
loop-b-preserved g c =
    let told = g.S.MetaRead.store c.args.store.now in
    let now = g.S.MetaRead.store c.loop-b.store in
    let l = c.loop-b in
    let more = c.in_ok-extend_from_slice.ensures.items in
    let long : length c.block.new.out ≡ 4096 = c.block.auto.out ∙ l.invariant.bytes in
    record {
      size = omega (arith, l.invariant.size, long, ap length more, length-append l.read.items c.block.new.out);
      bytes = long;
      blocks = told_more l.b l.read.items c.block.new.out _ told.content now.content l.invariant.unchanged.content more l.invariant.size long c.in_ok-block.ensures.bytes l.invariant.blocks;
      unchanged = unchanged_then l.invariant.unchanged c.in_ok-block.ensures.unchanged;
      kept = kept_then l.invariant.kept c.in_ok-block.ensures.kept;
      none_failed = none_then l.invariant.none_failed c.in_ok-block.ensures.failure;
    }

pub returns-clause-blocks : goal.returns-clause-blocks
returns-clause-blocks g c =
    let told = g.S.MetaRead.store c.args.store.now in
    let count : c.total-total.result ≡ blocks_of told.geometry = c.total-total.ensures ∙ ap blocks_of c.geometry.ensures.value in
    let enough : blocks_of told.geometry ≤ c.loop-b.b = omega (arith, c.loop-b-test.false, c.loop-b.auto.b-end, count) in
    all_told c.loop-b.b (blocks_of told.geometry) c.loop-b.read.items told.content enough c.loop-b.invariant.blocks
