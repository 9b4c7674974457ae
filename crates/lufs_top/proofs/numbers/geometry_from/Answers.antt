use Rattle.std.proofs.Common.{arith, sym, ◌∙◌}
use Rattle.lufs_top.proofs.Ranges.{in_range}
use Rattle.lufs_top.proofs.numbers.geometry_from.Goals as goal

pub overflow_cast-result : goal.overflow_cast-result
overflow_cast-result c = let high = (in_range c.args.numbers (sym c.first_out_of_range.ensures ∙ c.in-None.is)).groups_high in omega (arith, high)

pub overflow_cast-result-in-None : goal.overflow_cast-result-in-None
overflow_cast-result-in-None c = let high = (in_range c.args.numbers (sym c.first_out_of_range.ensures ∙ c.in-None.is)).bpg_high in omega (arith, high)

pub overflow_cast-result-in-None-2 : goal.overflow_cast-result-in-None-2
overflow_cast-result-in-None-2 c = let high = (in_range c.args.numbers (sym c.first_out_of_range.ensures ∙ c.in-None.is)).ipg_high in omega (arith, high)

pub overflow_cast-result-in-None-3 : goal.overflow_cast-result-in-None-3
overflow_cast-result-in-None-3 c = let high = (in_range c.args.numbers (sym c.first_out_of_range.ensures ∙ c.in-None.is)).log_high in omega (arith, high)

pub returns-in-None-clause-sound : goal.returns-in-None-clause-sound
returns-in-None-clause-sound c = in_range c.args.numbers (sym c.first_out_of_range.ensures ∙ c.in-None.is)
