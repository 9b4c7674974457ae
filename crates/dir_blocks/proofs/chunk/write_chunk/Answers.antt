use Rattle.std.proofs.Common.{ℕ, ◌+◌, sym, ap, subst, ◌∙◌}
use Rattle.volume_model.specs.Format.{IsChunk, chunk_bytes}
use Rattle.dir_blocks.proofs.WrittenSlots.{next_place, written_next, written_all}
use Rattle.dir_blocks.proofs.chunk.write_chunk.Goals as goal

pub loop-slot-preserved : goal.loop-slot-preserved
loop-slot-preserved c =
    let l = c.loop-slot in
    let slots = c.deref-slot-items.result.now in
    let is = subst IsChunk (sym c.deref-slot-items.ensures.value) c.chunk.invariant in
    record {
      at = ap (λ (n : ℕ). l.at + n) c.from-at.ensures ∙ next_place slots l.slot-index l.at c.slot-item.result c.loop-slot-test.true l.invariant.at c.slot-item.is;
      out = c.write_slot.ensures
          ∙ written_next slots c.args.out.now l.out l.slot-index l.at c.slot-item.result is.right c.loop-slot-test.true l.invariant.at c.slot-item.is l.invariant.out;
    }

pub returns : goal.returns
returns c =
    let l = c.loop-slot in
    let slots = c.deref-slot-items.result.now in
    let is = subst IsChunk (sym c.deref-slot-items.ensures.value) c.chunk.invariant in
    written_all slots c.args.out.now l.out l.slot-index is c.requires c.loop-slot-test.false l.invariant.out ∙ ap chunk_bytes (c.deref-slot-items.ensures.value ∙ c.chunk.view_is)
