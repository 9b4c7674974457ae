use Rattle.std.proofs.Common.{ℕ, ◌*◌, sym, ap, ◌∙◌}
use Rattle.block_alloc.proofs.Markings.{delta_marks}
use Rattle.block_alloc.proofs.marking.marked_delta.Goals as goal

pub returns : goal.returns
returns c =
    delta_marks c.args.g.now c.args.n c.args.hand.now c.args.found.now c.in-Some.group c.counted-group.result c.mark.new.group (4096 * c.from.result) c.in_ok-from_slice.field-0
    c.requires.within (sym c.if-not-has_of_group.ensures) c.in-Some.is c.requires.group c.counted-group.ensures.number c.counted-group.ensures.inode_bits c.counted-group.ensures.block_bits
    c.mark.ensures.group c.mark.ensures.number c.mark.ensures.put (ap (λ (k : ℕ). 4096 * k) (c.from.ensures ∙ c.group_block.ensures)) (c.in_ok-from_slice.ensures ∙ c.write_group.ensures)
