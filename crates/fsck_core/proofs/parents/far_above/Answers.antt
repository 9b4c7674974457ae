use Rattle.std.proofs.Common.{◌≡◌, ◌+◌, ◌-◌, ◌/◌, ◌==◌, true, List, ℕ, length, map, slice_index, Option, Vec, Global, sym, ap, subst, ◌∙◌, refl, arith}
use Rattle.std.specs.List.{list_all, range_with_len}
use Rattle.std.specs.Option.{option_map}
use Rattle.fsck_core.specs.StepsUp.{far_from}
use Rattle.fsck_core.proofs.ClimbedSteps.{Climbs, climb_begun, step_taken, steps_doubled, climb_settled_in, each_stays}
use Rattle.fsck_core.proofs.parents.far_above.Goals as goal
use Rattle.fsck_core.proofs.parents.far_above.Goals.{then-left-eq1+in_ok-one_further, else-left-eq1}

-- where the steps led that were taken from each of so many
abbrev led : ℕ → Option (Vec ℕ Global) → List ℕ
led n far = far_from n (option_map (λ f. f.items) far)

pub loop-left-init : goal.loop-left-init
loop-left-init c =
    let above = c.args.above.items in
    climb_begun above c.args.steps above (range_with_len 0 (length above)) refl refl

pub loop-left-preserved : goal.loop-left-preserved
loop-left-preserved c =
    let above = c.args.above.items in
    let n = length above in
    let l = c.loop-left in
    let step = l.step.items in
    let half = l.left / 2 in
    let far = led n l.far in
    let twice : c.in_ok-step.step.items ≡ map (slice_index step) step =
    c.in_ok-step.ensures ∙ ap (λ (xs : List ℕ). map (slice_index xs) c.deref-in-loop-left.result.now) c.deref-in-loop-left-2.ensures.value
    ∙ ap (map (slice_index step)) c.deref-in-loop-left.ensures.value in
    elim c.if-left-eq1.branch [
      | then-left-eq1+in_ok-one_further w ↦
          let more : led n c.if-left-eq1.far ≡ map (slice_index step) far =
          ap (led n) w.far-is ∙ w.in_ok-one_further.ensures
          ∙ ap (λ (xs : List ℕ). map (slice_index xs) (led (length xs) l.far)) w.deref-then-left-eq1.ensures.value
          ∙ ap (λ (k : ℕ). map (slice_index step) (led k l.far)) l.invariant.step_size in
          let taken = step_taken above c.args.steps l.left (half + half) step far (led n c.if-left-eq1.far) (omega (arith, w.if-left-eq1.true)) more l.invariant in
          steps_doubled above c.args.steps (half + half) half step (led n c.if-left-eq1.far) c.in_ok-step.step.items refl twice taken
      | else-left-eq1 w ↦
          subst (λ (o : Option (Vec ℕ Global)). Climbs above c.args.steps half c.in_ok-step.step.items (led n o)) (sym w.far-is)
          (steps_doubled above c.args.steps l.left half step far c.in_ok-step.step.items (omega (arith, w.if-left-eq1.false)) twice l.invariant)
    ]

pub returns-then-leads_no_further : goal.returns-then-leads_no_further
returns-then-leads_no_further c =
    let above = c.args.above.items in
    let n = length above in
    let l = c.loop-left in
    let step = l.step.items in
    let tested : list_all (λ i. slice_index step i == i) step ≡ true =
    ap (λ (xs : List ℕ). list_all (λ i. slice_index xs i == i) xs) (sym c.deref.ensures.value) ∙ sym c.leads_no_further.ensures ∙ c.if-leads_no_further.true in
    climb_settled_in above c.args.steps l.left (l.left - 1) step (led n l.far) step (led (length step) l.far) c.with_last.result (omega (arith, c.loop-left-test.true))
    (each_stays (slice_index step) step tested) (ap (λ (k : ℕ). led k l.far) l.invariant.step_size) refl c.with_last.ensures l.invariant
