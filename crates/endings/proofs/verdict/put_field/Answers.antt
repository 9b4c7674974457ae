use Rattle.std.proofs.Common.{◌≡◌, [], ◌∷◌, ◌++◌, ◌∙◌}
use Rattle.std.specs.Fmt.{decimal}
use Rattle.endings.proofs.PutTexts.{puts_both, puts_cut, puts_as, field_in_two}
use Rattle.endings.proofs.verdict.put_field.Goals as goal

pub returns-in_err-put_both : goal.returns-in_err-put_both
returns-in_err-put_both g c =
    let words = c.args.words.now in
    puts_as _ _ c.from_residual.result _ _ (field_in_two words c.args.number)
    (puts_cut (words ++ 32 ∷ []) (decimal c.args.number) c.in_err-put_both.field-0.0 c.from_residual.result _ _ c.from_residual.ensures.0 c.in_err-put_both.ensures)

pub returns : goal.returns
returns g c =
    let words = c.args.words.now in
    let digits : c.as_bytes.result.now ≡ decimal c.args.number = c.as_bytes.ensures.value ∙ c.format.ensures.text in
    puts_as _ _ c.put.result _ _ (field_in_two words c.args.number)
    (puts_both (words ++ 32 ∷ []) (decimal c.args.number) c.in_ok-put_both.field-0 c.put.result _ (g.K.Sink.told c.put_both.new.out) _ c.in_ok-put_both.ensures
    (puts_as _ _ c.put.result _ _ digits c.put.ensures))
