use Rattle.std.proofs.Common.{◌≡◌, ◌*◌, ℕ, Bool, true, false, [], find, ap, sym, ◌∙◌, arith, rules}
use borrow.Author.Tests.{tests}
use Rattle.std.proofs.lemmas.Iterator.{first_from_Range}
use Rattle.std.specs.List.{range_with_len}
use Rattle.volume_model.specs.Format.{Blocks}
use Rattle.volume_model.specs.Sound.{reading_of, has_bad_inode_bit}
use Rattle.volume_laws.proofs.ClaimFacts.{length-inodes}
use Rattle.fsck_core.specs.Inodes.{AreBriefs}
use Rattle.fsck_core.specs.Tables.{AreGroups}
use Rattle.fsck_core.proofs.FirstFound.{found_first, same_first}
use Rattle.fsck_core.proofs.bits.first_bad_inode_bit.Goals as goal

pub returns : goal.returns
returns c = λ blocks groups inodes.
    let g = c.args.g.now in
    let r = reading_of g blocks in
    let n = g.groups * g.ipg in
    let p = has_bad_inode_bit g r [] in
    let Says : Bool → ℕ → Type 0 = λ b i. (bs : Blocks) → AreGroups g bs c.args.groups.now → AreBriefs g bs c.args.inodes.now → b ≡ has_bad_inode_bit g (reading_of g bs) [] i in
    found_first p n 0 n c.find.result (omega arith)
    (same_first p (Says true) (Says false) 0 n c.find.result (λ i low less says. sym (says blocks groups inodes)) (λ i low less says. sym (says blocks groups inodes))
    (first_from_Range _ _ _ c.find.result (Says true) (Says false) c.find.ensures.ran (λ x q k. search (rules, tests)) (λ x q k. search (rules, tests))))
    ∙ ap (λ (len : ℕ). find p (range_with_len 0 len)) (sym (length-inodes g blocks))
