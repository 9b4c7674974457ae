use Rattle.std.proofs.Common.{ap, ◌∙◌, ◌-◌, ℕ}
use Rattle.lufs_base.specs.Layout.{blocks_of}
use Rattle.volume_model.specs.Sound.{reading_of}
use Rattle.fsck_core.proofs.BitSteps.{used_counted, counts_are}
use Rattle.fsck_core.proofs.ClaimBridges.{count_of_claims}
use Rattle.fsck_core.proofs.bits.counts.Goals as goal

pub returns : goal.returns
returns c = λ blocks so has.
    let g = c.args.g.now in
    let r = reading_of g blocks in
    let claims = c.args.claims.now in
    counts_are g r c.count_used.result claims.count c.saturating_sub.result
    (c.count_used.ensures ∙ used_counted g blocks c.args.inodes.now so c.requires.inodes)
    (count_of_claims r (blocks_of g) claims has)
    (c.saturating_sub.ensures ∙ ap (λ (n : ℕ). n - claims.count) c.body_blocks.ensures)
