use Rattle.std.proofs.Common.{◌≡◌, List, Some, sym, ap, ◌∙◌, arith}
use Rattle.volume_model.specs.declared.directory.Slot.{Slot}
use Rattle.volume_model.specs.Format.{room_in}
use Rattle.dir_blocks.proofs.RightSlots.{entered_chunk}
use Rattle.dir_blocks.proofs.chunk.Chunk.put.Goals as goal

pub invariant_of-self : goal.invariant_of-self
invariant_of-self c =
    let slots = c.self.inside.slots.items in
    let room : room_in slots c.args.name ≡ Some c.unwrap-place.result =
    ap (λ (l : List Slot). room_in l c.args.name) c.self.view_is ∙ sym c.room.ensures ∙ c.unwrap-place.ensures in
    entered_chunk c.enter_at.result slots c.enter_at.new.slots.items c.unwrap-place.result c.args.i.0 c.args.name c.self.invariant c.enter_at.ensures.ok c.enter_at.ensures.err
    room c.requires.allowed c.requires.number (omega arith)
