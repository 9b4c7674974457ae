use Rattle.std.proofs.Common.{◌≡◌, ◌<◌, ℕ, Bool, true, false, [], find, ap, sym, ◌∙◌, arith, rules}
use borrow.Author.Tests.{tests}
use Rattle.std.proofs.lemmas.Iterator.{first_from_Range}
use Rattle.std.specs.List.{range_with_len}
use Rattle.volume_model.specs.Sound.{reading_of, has_bad_block_bit}
use Rattle.fsck_core.specs.Bits.{has_other_bit}
use Rattle.lufs_base.specs.Layout.{blocks_of}
use Rattle.fsck_core.proofs.BitSteps.{bad_block_bit, agreed}
use Rattle.fsck_core.proofs.Findings.{none_in_range}
use Rattle.fsck_core.proofs.FirstFound.{found_first, same_first}
use Rattle.fsck_core.proofs.bits.first_bad_block_bit.Goals as goal

pub returns : goal.returns
returns c = λ blocks so has.
    let g = c.args.g.now in
    let groups = c.args.groups.now in
    let claims = c.args.claims.now in
    let n = c.total.result in
    let p = has_bad_block_bit g (reading_of g blocks) [] in
    let Says : Bool → ℕ → Type 0 = λ t b. t ≡ has_other_bit g groups claims b in
    let agrees : (t : Bool) (b : ℕ) → b < n → Says t b → p b ≡ t =
    λ t b less says. bad_block_bit g blocks groups claims b c.requires.geometry so c.requires.groups has (omega (arith, less, c.total.ensures)) ∙ sym says in
    found_first p n 0 n c.find.result (omega arith)
    (same_first p (Says true) (Says false) 0 n c.find.result (λ b low less says. agrees true b less says) (λ b low less says. agrees false b less says)
    (first_from_Range _ _ _ c.find.result (Says true) (Says false) c.find.ensures.ran (λ x q k. search (rules, tests)) (λ x q k. search (rules, tests))))
    ∙ ap (λ (len : ℕ). find p (range_with_len 0 len)) c.total.ensures

pub returns-then-all_blocks_agree : goal.returns-then-all_blocks_agree
returns-then-all_blocks_agree c = λ blocks so has.
    let g = c.args.g.now in
    let groups = c.args.groups.now in
    let claims = c.args.claims.now in
    sym (none_in_range (has_bad_block_bit g (reading_of g blocks) []) (blocks_of g) (λ b below.
    bad_block_bit g blocks groups claims b c.requires.geometry so c.requires.groups has below
    ∙ agreed g groups claims b c.requires.geometry c.requires.groups (c.all_blocks_agree.ensures c.if-all_blocks_agree.true) below))
