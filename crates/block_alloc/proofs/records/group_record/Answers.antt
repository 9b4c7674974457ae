use Rattle.std.proofs.Common.{arith}
use Rattle.std.proofs.lemmas.List.{length-take}
use Rattle.block_alloc.proofs.RecordsRead.{group_told, read_group_is}
use Rattle.block_alloc.proofs.records.group_record.Goals as goal

pub slice_bounds-read_group-end : goal.slice_bounds-read_group-end
slice_bounds-read_group-end g c = omega (arith, length-take 416 c.block.new.out, c.block.auto.out)

pub read_group-requires-clause-record : goal.read_group-requires-clause-record
read_group-requires-clause-record g c = omega (arith, length-take 416 c.block.new.out, c.block.auto.out)

pub returns-clause-value : goal.returns-clause-value
returns-clause-value g c =
    group_told (g.S.MetaRead.store c.args.store.now).geometry c.geometry.result.now (g.S.MetaRead.store c.args.store.now).content c.args.n c.group_block.result.0
    c.block.new.out _ _ c.geometry.ensures.value c.group_block.ensures c.in_ok-block.ensures.bytes c.ok.ensures.value c.read_group.ensures.value

pub returns-clause-group : goal.returns-clause-group
returns-clause-group g c =
    read_group_is (g.S.MetaRead.store c.args.store.now).geometry c.geometry.result.now c.args.n c.read_group.result _ c.geometry.ensures.value c.ok.ensures.value
    c.read_group.ensures.sizes c.read_group.ensures.group
