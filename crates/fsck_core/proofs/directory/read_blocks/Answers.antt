use Rattle.std.proofs.Common.{◌≡◌, ◌+◌, ◌/◌, length, ap, arith}
use Rattle.std.proofs.lemmas.List.{length-append}
use Rattle.sector_disk.proofs.MadeCalls.{none_then}
use Rattle.fsck_core.proofs.StoreSteps.{unchanged_then}
use Rattle.fsck_core.proofs.DirectoryChunks.{block_appended, blocks_stand}
use Rattle.fsck_core.proofs.directory.read_blocks.Goals as goal

pub loop-k-preserved : goal.loop-k-preserved
loop-k-preserved g c =
    let l = c.loop-k in
    let out = c.block.new.out in
    let more = c.extend_from_slice.new.self.items in
    let long : length out ≡ 4096 = omega (arith, c.block.auto.out, l.invariant.room) in
    let items = c.in_ok-extend_from_slice.ensures.items in
    record {
      size = omega (arith, ap length items, length-append l.bytes.items out, l.invariant.size, long);
      blocks = block_appended (g.S.MetaRead.store c.args.store.now).content (g.S.MetaRead.store l.store).content c.args.numbers.now l.bytes.items out more l.k
          l.invariant.unchanged.content l.invariant.size long c.in_ok-block.ensures.bytes items l.invariant.blocks;
      room = long;
      unchanged = unchanged_then l.invariant.unchanged c.in_ok-block.ensures.unchanged;
      none_failed = none_then l.invariant.none_failed c.in_ok-block.ensures.failure;
    }

pub returns-clause-bytes : goal.returns-clause-bytes
returns-clause-bytes g c =
    let l = c.loop-k in
    blocks_stand (g.S.MetaRead.store c.args.store.now).content c.args.numbers.now l.bytes.items l.k ((c.args.d.now.size + 4095) / 4096) (omega (arith, c.loop-k-test.false)) l.invariant.blocks
