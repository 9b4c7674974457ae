use Rattle.std.proofs.Common.{[], ◌∷◌, ◌++◌}
use Rattle.endings.proofs.PutTexts.{puts_both, puts_first, puts_cut, puts_as, line_of_two}
use Rattle.drive_command.proofs.put.put_sink.Goals as goal

pub returns-in_err-put_both : goal.returns-in_err-put_both
returns-in_err-put_both g c =
    let words = c.args.words.now in
    let name = c.args.name.now ++ c.args.suffix.now in
    puts_as _ _ c.from_residual.result _ _ (line_of_two words c.args.name.now c.args.suffix.now)
    (puts_cut {T = Unit {0}} ((words ++ 32 ∷ []) ++ name) (10 ∷ []) c.in_err-put_both.field-0.0 c.from_residual.result _ _ c.from_residual.ensures.0
    (puts_first (words ++ 32 ∷ []) name c.in_err-put_both.field-0.0 c.in_err-put_both.field-0.0 _ _ c.in_err-put_both.ensures))

pub returns-in_err-put_both-2 : goal.returns-in_err-put_both-2
returns-in_err-put_both-2 g c =
    let words = c.args.words.now in
    let name = c.args.name.now ++ c.args.suffix.now in
    puts_as _ _ c.from_residual-in_err-put_both-2.result _ _ (line_of_two words c.args.name.now c.args.suffix.now)
    (puts_cut {T = Unit {0}} ((words ++ 32 ∷ []) ++ name) (10 ∷ []) c.in_err-put_both-2.field-0.0 c.from_residual-in_err-put_both-2.result _ _ c.from_residual-in_err-put_both-2.ensures.0
    (puts_both (words ++ 32 ∷ []) name c.in_ok-put_both.field-0 _ _ (g.K.Sink.told c.put_both.new.out) _ c.in_ok-put_both.ensures c.in_err-put_both-2.ensures))

pub returns : goal.returns
returns g c =
    let words = c.args.words.now in
    let name = c.args.name.now ++ c.args.suffix.now in
    puts_as _ _ c.put.result _ _ (line_of_two words c.args.name.now c.args.suffix.now)
    (puts_both ((words ++ 32 ∷ []) ++ name) (10 ∷ []) c.in_ok-put_both-2.field-0 c.put.result _ (g.K.Sink.told c.put_both-2.new.out) _
    (puts_both (words ++ 32 ∷ []) name c.in_ok-put_both.field-0 _ _ (g.K.Sink.told c.put_both.new.out) _ c.in_ok-put_both.ensures c.in_ok-put_both-2.ensures)
    c.put.ensures)
