use Rattle.std.proofs.Common.{arith}
use Rattle.dir_blocks.proofs.ChangedSlots.{removed_at, lengths_fit}
use Rattle.dir_blocks.proofs.edits.remove_at.Goals as goal

pub overflow_add-slot : goal.overflow_add-slot
overflow_add-slot c =
    let most = lengths_fit c.args.slots.now.items c.remove-freed.new.self.items c.args.place c.remove-freed.result c.index_mut-slot-else-place-eq0.result.now
    c.if-place-eq0.false c.requires.inside c.remove-freed.ensures.value c.remove-freed.ensures.items c.index_mut-slot-else-place-eq0.ensures.value in
    omega (arith, most, c.requires.fits)

pub returns-else-place-eq0 : goal.returns-else-place-eq0
returns-else-place-eq0 c =
    removed_at c.args.slots.now.items c.remove-freed.new.self.items c.args.place c.remove-freed.result c.index_mut-slot-else-place-eq0.result.now
    c.if-place-eq0.false c.requires.inside c.remove-freed.ensures.value c.remove-freed.ensures.items c.index_mut-slot-else-place-eq0.ensures.value
