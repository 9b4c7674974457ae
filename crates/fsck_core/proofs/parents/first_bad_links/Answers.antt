use Rattle.std.proofs.Common.{◌≡◌, ℕ, ◌<◌, Bool, true, false, min, slice_index, slice_index_or, None, length, find, ap, sym, ◌∙◌, arith, rules}
use borrow.Author.Tests.{tests}
use Rattle.std.proofs.lemmas.Iterator.{first_from_Range}
use Rattle.std.specs.List.{range_with_len}
use Rattle.volume_model.specs.Sound.{inodes_in, names_in_reading, links_to, has_bad_links}
use Rattle.fsck_core.specs.NameTables.{most_links}
use Rattle.fsck_core.specs.StepsUp.{has_other_links}
use Rattle.fsck_core.proofs.FirstFound.{found_first, same_first}
use Rattle.fsck_core.proofs.NamedLinks.{other_links_is}
use Rattle.fsck_core.proofs.parents.first_bad_links.Goals as goal

pub returns : goal.returns
returns c = λ r size records has.
    let inodes = c.args.inodes.now in
    let n = length inodes in
    let table = c.args.tables.now.links.items in
    let Says : Bool → ℕ → Type 0 = λ b i. (links : ℕ) → slice_index table i ≡ min links most_links → b ≡ has_other_links (slice_index_or inodes i None) links in
    let agrees : (b : Bool) (i : ℕ) → i < n → Says b i → has_bad_links r i ≡ b =
    λ b i less says.
    sym (says (links_to (inodes_in r) (names_in_reading r) i) (has.links i (omega arith)) ∙ other_links_is r inodes i (records i (omega arith))) in
    found_first (has_bad_links r) n 0 n c.find.result (omega arith)
    (same_first (has_bad_links r) (Says true) (Says false) 0 n c.find.result (λ i low less says. agrees true i less says) (λ i low less says. agrees false i less says)
    (first_from_Range _ _ _ c.find.result (Says true) (Says false) c.find.ensures.ran (λ x q k. search (rules, tests)) (λ x q k. search (rules, tests))))
    ∙ ap (λ (len : ℕ). find (has_bad_links r) (range_with_len 0 len)) (sym size)
