use Rattle.std.proofs.Common.{List, ap, ◌∙◌}
use Rattle.volume_model.specs.declared.directory.Slot.{Slot}
use Rattle.volume_model.specs.Format.{found_at}
use Rattle.dir_blocks.proofs.ChangedSlots.{found_used}
use Rattle.dir_blocks.proofs.chunk.Chunk.find.Goals as goal

pub returns-clause-used : goal.returns-clause-used
returns-clause-used c =
    let name = c.args.name.now in
    found_used c.args.self.now name c.find_in.result
    (c.find_in.ensures ∙ ap (λ (l : List Slot). found_at l name) (c.deref.ensures.value ∙ c.self.view_is))
