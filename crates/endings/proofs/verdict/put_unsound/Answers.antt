use Rattle.std.proofs.Common.{◌≡◌, ℕ, List, ap, ◌∙◌}
use Rattle.std.specs.Prelude.{codes}
use Rattle.volume_model.specs.Texts.{word_of}
use Rattle.endings.specs.Lines.{counted_line}
use Rattle.endings.proofs.PutTexts.{puts_as, finding_line}
use Rattle.endings.proofs.verdict.put_unsound.Goals as goal

pub returns : goal.returns
returns g c =
    let word : c.as_bytes-word.result.now ≡ word_of c.args.kind = c.as_bytes-word.ensures.value ∙ c.word_of.ensures in
    puts_as _ _ c.put_number.result _ _
    (ap (λ (name : List ℕ). counted_line (codes "unsound") name c.from.result) word
    ∙ ap (λ (n : ℕ). counted_line (codes "unsound") (word_of c.args.kind) n) c.from.ensures
    ∙ finding_line c.args.kind c.args.number)
    c.put_number.ensures
