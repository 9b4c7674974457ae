use Rattle.std.proofs.Common.{◌≤◌, sym, subst, arith}
use Rattle.volume_model.specs.declared.directory.Slot.{Slot}
use Rattle.volume_model.specs.Format.{kept_length}
use Rattle.dir_blocks.proofs.ChangedSlots.{taken_over, entered_at}
use Rattle.dir_blocks.proofs.edits.enter_at.Goals as goal

pub returns-then-slot-eq0-clause-ok : goal.returns-then-slot-eq0-clause-ok
returns-then-slot-eq0-clause-ok c =
    taken_over c.args.slots.now.items c.args.place c.args.ino c.args.name c.index_mut-slot.result.now c.requires.inside c.index_mut-slot.ensures.value c.if-slot-eq0.true

pub overflow_cast-kept : goal.overflow_cast-kept
overflow_cast-kept c =
    let slot = c.index_mut-slot.result.now in
    let kept = subst (λ (s : Slot). kept_length s ≤ s.len) (sym c.index_mut-slot.ensures.value) (c.requires.kept c.args.place slot c.requires.inside) in
    omega (arith, kept, c.kept_length-kept.ensures)

pub returns-clause-ok : goal.returns-clause-ok
returns-clause-ok c =
    entered_at c.args.slots.now.items c.insert.new.self.items c.args.place c.args.ino c.kept_length-kept.result c.args.name c.index_mut-slot.result.now c.index_mut-slot-2.result.now
    c.requires.inside c.index_mut-slot.ensures.value c.if-slot-eq0.false c.kept_length-kept.ensures c.in_ok-insert.ensures.items c.index_mut-slot-2.ensures.value
