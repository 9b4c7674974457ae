use Rattle.std.proofs.Common.{[], ◌∷◌, ◌++◌}
use Rattle.endings.proofs.PutTexts.{puts_both, puts_cut, puts_as, line_in_two}
use Rattle.endings.proofs.put.put_line.Goals as goal

pub returns-in_err-put_both : goal.returns-in_err-put_both
returns-in_err-put_both g c =
    let words = c.args.words.now in
    let name = c.args.name.now in
    puts_as _ _ c.from_residual.result _ _ (line_in_two words name)
    (puts_cut (words ++ 32 ∷ []) (name ++ 10 ∷ []) c.in_err-put_both.field-0.0 c.from_residual.result _ _ c.from_residual.ensures.0 c.in_err-put_both.ensures)

pub returns : goal.returns
returns g c =
    let words = c.args.words.now in
    let name = c.args.name.now in
    puts_as _ _ c.put_both-2.result _ _ (line_in_two words name)
    (puts_both (words ++ 32 ∷ []) (name ++ 10 ∷ []) c.in_ok-put_both.field-0 c.put_both-2.result _ (g.K.Sink.told c.put_both.new.out) _ c.in_ok-put_both.ensures c.put_both-2.ensures)
