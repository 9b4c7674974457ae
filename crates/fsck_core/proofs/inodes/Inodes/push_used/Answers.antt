use Rattle.std.proofs.Common.{◌≡◌, ℕ, ◌++◌, ◌<◌, List, All, ap, sym, subst, ◌∙◌}
use Rattle.lufs_base.specs.Layout.{blocks_of}
use Rattle.fsck_core.specs.Claimed.{blocks_claimed, HasClaimed}
use Rattle.fsck_core.proofs.ClaimBridges.{within_of_bodies}
use Rattle.fsck_core.proofs.KeptInodes.{kept_settled, kept_unsettled}
use Rattle.fsck_core.proofs.inodes.Inodes.push_used.Goals as goal

pub returns-then-is_settled-clause-kept : goal.returns-then-is_settled-clause-kept
returns-then-is_settled-clause-kept c = λ blocks below next high kept.
    let g = c.args.g.now in
    let d = c.args.d.now in
    let s = c.args.self.now in
    let here : blocks_claimed d c.below_size.result.now ≡ blocks_claimed d d.direct = ap (blocks_claimed d) c.below_size.ensures.value ∙ c.is_settled.ensures.below c.if-is_settled.true in
    let within : All (λ b. b < blocks_of g) (blocks_claimed d c.below_size.result.now) =
    subst (All (λ b. b < blocks_of g)) (sym here) (within_of_bodies g (blocks_claimed d d.direct) (c.is_settled.ensures.bodies c.if-is_settled.true)) in
    kept_settled g blocks c.args.i s.briefs.items c.push.new.self.items s.unsettled.items s.claims c.claim_all.new.self d c.requires.room.briefs_size below next high
    c.in_ok-push.ensures.items (sym c.is_settled.ensures.value ∙ c.if-is_settled.true) c.is_settled.ensures.direct
    (λ before has. subst (λ (l : List ℕ). HasClaimed (blocks_of g) (before ++ l) c.claim_all.new.self) here (c.claim_all.ensures.claimed (blocks_of g) before within has)) kept

pub returns-clause-kept : goal.returns-clause-kept
returns-clause-kept c = λ blocks below next high kept.
    let s = c.args.self.now in
    kept_unsettled c.args.g.now blocks c.args.i s.briefs.items c.push.new.self.items s.unsettled.items c.push-2.new.self.items s.claims c.args.d.now c.requires.room.briefs_size below next high
    c.in_ok-push.ensures.items (sym c.is_settled.ensures.value ∙ c.if-is_settled.false) c.in_ok-push-2.ensures.items kept
