use Rattle.std.proofs.Common.{◌≡◌, ℕ, List, [], ◌∷◌, ◌++◌, ap, ◌∙◌}
use Rattle.std.specs.Fmt.{decimal}
use Rattle.endings.proofs.PutTexts.{puts_both, puts_first, puts_cut, puts_as, line_in_three}
use Rattle.endings.proofs.put.put_number.Goals as goal

pub returns-in_err-put_both : goal.returns-in_err-put_both
returns-in_err-put_both g c =
    let words = c.args.words.now in
    let name = c.args.name.now in
    let number = decimal c.args.number in
    puts_as _ _ c.from_residual.result _ _ (line_in_three words name number)
    (puts_cut {T = Unit {0}} ((words ++ 32 ∷ []) ++ (name ++ 32 ∷ [])) (number ++ 10 ∷ []) c.in_err-put_both.field-0.0 c.from_residual.result _ _ c.from_residual.ensures.0
    (puts_first (words ++ 32 ∷ []) (name ++ 32 ∷ []) c.in_err-put_both.field-0.0 c.in_err-put_both.field-0.0 _ _ c.in_err-put_both.ensures))

pub returns-in_err-put_both-2 : goal.returns-in_err-put_both-2
returns-in_err-put_both-2 g c =
    let words = c.args.words.now in
    let name = c.args.name.now in
    let number = decimal c.args.number in
    puts_as _ _ c.from_residual-in_err-put_both-2.result _ _ (line_in_three words name number)
    (puts_cut {T = Unit {0}} ((words ++ 32 ∷ []) ++ (name ++ 32 ∷ [])) (number ++ 10 ∷ []) c.in_err-put_both-2.field-0.0 c.from_residual-in_err-put_both-2.result _ _ c.from_residual-in_err-put_both-2.ensures.0
    (puts_both (words ++ 32 ∷ []) (name ++ 32 ∷ []) c.in_ok-put_both.field-0 _ _ (g.K.Sink.told c.put_both.new.out) _ c.in_ok-put_both.ensures c.in_err-put_both-2.ensures))

pub returns : goal.returns
returns g c =
    let words = c.args.words.now in
    let name = c.args.name.now in
    let number = decimal c.args.number in
    let digits : c.as_bytes.result.now ≡ number = c.as_bytes.ensures.value ∙ c.format.ensures.text in
    puts_as _ _ c.put_both-3.result _ _ (line_in_three words name number)
    (puts_both ((words ++ 32 ∷ []) ++ (name ++ 32 ∷ [])) (number ++ 10 ∷ []) c.in_ok-put_both-2.field-0 c.put_both-3.result _ (g.K.Sink.told c.put_both-2.new.out) _
    (puts_both (words ++ 32 ∷ []) (name ++ 32 ∷ []) c.in_ok-put_both.field-0 _ _ (g.K.Sink.told c.put_both.new.out) _ c.in_ok-put_both.ensures c.in_ok-put_both-2.ensures)
    (puts_as _ _ c.put_both-3.result _ _ (ap (λ (l : List ℕ). l ++ 10 ∷ []) digits) c.put_both-3.ensures))
