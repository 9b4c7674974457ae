use Rattle.std.proofs.Common.{sym, ◌∙◌}
use Rattle.fsck_core.proofs.BitSteps.{other_bit, no_other_bit}
use Rattle.fsck_core.proofs.bits.has_bad_block_bit.Goals as goal

pub returns-then-is_body : goal.returns-then-is_body
returns-then-is_body c =
    other_bit c.args.g.now c.args.groups.now c.args.claims.now c.args.b c.block_bit.result c.is_claimed.result (sym c.is_body.ensures ∙ c.if-is_body.true)
    c.block_bit.ensures c.is_claimed.ensures

pub returns-else-is_body : goal.returns-else-is_body
returns-else-is_body c = c.if-is_body.false ∙ no_other_bit c.args.g.now c.args.groups.now c.args.claims.now c.args.b (sym c.is_body.ensures ∙ c.if-is_body.false)
