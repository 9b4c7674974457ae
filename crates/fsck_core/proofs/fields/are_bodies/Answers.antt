use Rattle.std.proofs.Common.{ℕ, Bool, ◌==◌, ◌&&◌, ◌||◌, ◌∷◌, slice_index, sym, ap, ◌∙◌, rules}
use borrow.Author.Tests.{tests}
use Rattle.std.proofs.lemmas.Iterator.{YieldsList-from_slice}
use Rattle.std.proofs.lemmas.Iterator.Search.{all_from_yields_List}
use Rattle.std.specs.List.{list_all}
use Rattle.volume_model.specs.Format.{is_body}
use Rattle.fsck_core.proofs.Nonzero.{list_all-nonzero}
use Rattle.fsck_core.proofs.fields.are_bodies.Goals as goal

pub returns-then-is_none_or_body : goal.returns-then-is_none_or_body
returns-then-is_none_or_body c =
    let g = c.args.g.now in
    let numbers = c.args.numbers.now in
    let pointer = slice_index c.args.d.now.indirect 0 in
    let test = λ (b : ℕ). b == 0 || is_body g b in
    all_from_yields_List test _ _ _ c.all.ensures.ran (YieldsList-from_slice numbers cc) (λ x b q k. search (rules, tests))
    ∙ ap (λ (t : Bool). t && list_all test numbers) (sym c.if-is_none_or_body.true ∙ c.is_none_or_body.ensures)
    ∙ sym (list_all-nonzero (is_body g) (pointer ∷ numbers))
