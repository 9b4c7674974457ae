use Rattle.std.proofs.Common.{◌≡◌, ℕ, ◌+◌, true, List, length, Some, sym, ap, ◌∙◌, subst}
use Rattle.std.proofs.lemmas.List.{with_items_is}
use Rattle.fsck_core.specs.declared.claims.Claims.{Claims}
use Rattle.fsck_core.proofs.ClaimSteps.{claimed_again, claimed_first}
use Rattle.fsck_core.proofs.claims.Claims.claim.Goals as goal
use Rattle.fsck_core.proofs.claims.Claims.claim.Goals.{then-is_claimed, else-is_claimed}
use Rattle.volume_model.specs.Format.{HasBit}

pub returns-clause-claimed : goal.returns-clause-claimed
returns-clause-claimed c = λ total blocks within has.
    let old = c.args.self.now in
    let new : Claims = record c.if-is_claimed.self { count = c.if-is_claimed.self.count + 1 } in
    elim c.if-is_claimed.branch [
      | then-is_claimed w ↦
          claimed_again total c.args.b blocks old new within has (sym c.is_claimed.ensures ∙ w.if-is_claimed.true)
          (ap (λ (s : Claims). s.bits.items) w.self-is) (ap (λ (s : Claims). s.count + 1) w.self-is)
          (ap (λ (s : Claims). s.twice) w.self-is ∙ ap Some w.lower_of.ensures)
      | else-is_claimed w ↦
          let size : length w.set.new.bits ≡ old.bits.len = w.set.auto.bits ∙ ap length w.deref_mut.ensures.value ∙ sym old.bits.ok.0 in
          let bits : c.if-is_claimed.self.bits.items ≡ w.set.new.bits =
          ap (λ (s : Claims). s.bits.items) w.self-is ∙ with_items_is old.bits w.set.new.bits size in
          let put : HasBit c.args.b true old.bits.items w.set.new.bits =
          subst (λ (l : List ℕ). HasBit c.args.b true l w.set.new.bits) w.deref_mut.ensures.value w.set.ensures in
          claimed_first total c.args.b blocks old new within has (sym c.is_claimed.ensures ∙ w.if-is_claimed.false)
          (subst (λ (l : List ℕ). HasBit c.args.b true old.bits.items l) (sym bits) put)
          (ap length bits ∙ w.set.auto.bits ∙ ap length w.deref_mut.ensures.value) (ap (λ (s : Claims). s.count + 1) w.self-is)
          (ap (λ (s : Claims). s.twice) w.self-is)
    ]
