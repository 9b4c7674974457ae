use Rattle.std.proofs.Common.{◌≡◌, ap, ◌∙◌, arith}
use Rattle.meta_draft.specs.Drafted.{drafted}
use Rattle.file_map.specs.Freed.{metadata_among}
use Rattle.file_map.specs.Dropped.{freed_of}
use Rattle.file_map.proofs.DroppedBlocks.{blocks_read, few_freed}
use Rattle.file_map.proofs.drop.blocks_of_record.Goals as goal

pub returns-clause-blocks : goal.returns-clause-blocks
returns-clause-blocks g c =
    let told = drafted c.args.draft.now.change (g.S.MetaRead.store c.args.store.now) in
    let d = c.args.d.now in
    blocks_read told.content told.geometry d c.in_ok-numbers.numbers.items c.in_ok-list.list.items c.from.result (c.from.ensures ∙ c.most_indexes-most.ensures)
    (c.in_ok-list.ensures ∙ ap (freed_of d) c.deref.ensures.value) c.in_ok-numbers.ensures.numbers

pub returns-clause-few : goal.returns-clause-few
returns-clause-few g c = omega (arith, ap metadata_among c.in_ok-list.ensures, few_freed c.args.d.now c.deref.result.now)
