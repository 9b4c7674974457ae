use Rattle.std.proofs.Common.{List, sym, subst, arith}
use Rattle.volume_model.specs.declared.directory.Slot.{Slot}
use Rattle.volume_model.specs.Format.{IsChunk, IsUsed}
use Rattle.dir_blocks.proofs.RightSlots.{with_ino_right, are_right, is_chunk}
use Rattle.dir_blocks.proofs.chunk.Chunk.set.Goals as goal

pub invariant_of-self : goal.invariant_of-self
invariant_of-self c =
    let slots = c.self.inside.slots.items in
    let used = subst (λ (l : List Slot). IsUsed l c.args.place) (sym c.self.view_is) c.requires.used in
    subst IsChunk (sym c.renumber_at.ensures)
    (is_chunk _ (with_ino_right slots c.args.place c.args.i.0 512 (are_right slots c.self.invariant) used c.requires.number (omega arith)))
