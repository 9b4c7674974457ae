use Rattle.std.proofs.Common.{sym, subst}
use Rattle.volume_model.specs.Format.{IsChunk}
use Rattle.dir_blocks.proofs.RightSlots.{without_right, are_right, is_chunk}
use Rattle.dir_blocks.proofs.chunk.Chunk.take_out.Goals as goal

pub invariant_of-self : goal.invariant_of-self
invariant_of-self c =
    let slots = c.self.inside.slots.items in
    subst IsChunk (sym c.remove_at.ensures) (is_chunk _ (without_right slots c.args.place 512 (are_right slots c.self.invariant)))
