use Rattle.std.proofs.Common.{ℕ, suc, ◌*◌, ◌<◌, List, [], ◌∷◌, ◌++◌, length, take, slice_index, append_assoc, sym, ap, ◌∙◌, subst, arith}
use Rattle.fsck_core.specs.Claimed.{HasClaimed, blocks_claimed, nonzero}
use Rattle.fsck_core.proofs.Nonzero.{blocks_claimed-more, nonzero_at}
use Rattle.fsck_core.proofs.claims.Claims.claim_all.Goals as goal

pub claim_number-requires-in-loop-b-clause-room : goal.claim_number-requires-in-loop-b-clause-room
claim_number-requires-in-loop-b-clause-room c = λ held.
    let room = 8 * length c.args.self.now.bits.items in
    let below : slice_index c.args.numbers.now c.loop-b.b-index < room =
    nonzero_at (λ b. b < room) (slice_index c.args.d.now.indirect 0 ∷ c.args.numbers.now) (suc c.loop-b.b-index) c.requires.room (omega arith) held in
    omega (arith, c.loop-b.invariant.room)

pub loop-b-preserved : goal.loop-b-preserved
loop-b-preserved c =
    let d = c.args.d.now in
    let numbers = c.args.numbers.now in
    let k = c.loop-b.b-index in
    let within : k < length numbers = omega arith in
    record {
      room = c.claim_number-in-loop-b.ensures.room ∙ c.loop-b.invariant.room;
      count = omega arith;
      claimed = λ total blocks all has.
          let more =
          c.claim_number-in-loop-b.ensures.claimed total (blocks ++ blocks_claimed d (take k numbers))
          (λ held. nonzero_at (λ b. b < total) (slice_index d.indirect 0 ∷ numbers) (suc k) all (omega arith) held)
          (c.loop-b.invariant.claimed total blocks all has) in
          subst (λ (l : List ℕ). HasClaimed total l c.claim_number-in-loop-b.new.self)
          (append_assoc blocks (blocks_claimed d (take k numbers)) (nonzero (slice_index numbers k ∷ []))
          ∙ ap (λ (l : List ℕ). blocks ++ l) (sym (blocks_claimed-more d numbers k within)))
          more;
    }
