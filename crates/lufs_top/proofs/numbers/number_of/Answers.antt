use Rattle.std.proofs.Common.{◌∙◌, arith}
use Rattle.lufs_top.proofs.NumberTests.{no_number, no_sign, no_zero, parsed}
use Rattle.lufs_top.proofs.numbers.number_of.Goals as goal

pub returns-then-is_empty : goal.returns-then-is_empty
returns-then-is_empty c = no_number c.args.text.now (λ is. let some = is.some in grind (arith, some))

pub returns-then-has_leading_zero : goal.returns-then-has_leading_zero
returns-then-has_leading_zero c = no_number c.args.text.now (no_zero c.args.text.now (cc))

pub returns-then-bytes-eq43 : goal.returns-then-bytes-eq43
returns-then-bytes-eq43 c = no_number c.args.text.now (no_sign c.args.text.now (cc))

pub returns : goal.returns
returns c = c.ok.ensures.value ∙ parsed c.args.text.now c.parse.result c.parse.ensures.value.0 (λ sign. c.if-bytes-eq43.false (cc (sign))) (cc)
