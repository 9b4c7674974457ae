use Rattle.std.proofs.Common.{◌≡◌, ◌≤◌, ℕ, ◌+◌, ◌*◌, length, drop, get_or, Some, sym, ap, ◌∙◌, arith}
use Rattle.std.specs.Option.{option_copied}
use Rattle.std.proofs.lemmas.List.{get_or_default}
use Rattle.volume_model.specs.Format.{Image}
use Rattle.volume_model.proofs.Sectors.{length-overwritten}
use Rattle.sector_disk.specs.Chosen.{nth_written, with_choice}
use Rattle.sector_disk.proofs.CrashSteps.{nth_inside, choice_on}
use Rattle.sector_disk.proofs.crash.lay_chosen.Goals as goal

pub put-requires : goal.put-requires
put-requires c =
    let l = c.loop-sector in
    let chosen : ℕ × ℕ = get_or c.args.choice.now l.sector-index (0, 0) in
    let value : nth_written c.args.calls.now chosen.0 chosen.1 ≡ Some c.in-Some.value.now = sym c.nth_written.ensures ∙ ap option_copied c.in-Some.is in
    let inside = nth_inside (length c.args.image.now.items) c.args.calls.now chosen.0 chosen.1 c.in-Some.value.now c.requires value in
    omega (arith, inside.0, inside.1, l.invariant.size)

pub loop-sector-preserved : goal.loop-sector-preserved
loop-sector-preserved c =
    let l = c.loop-sector in
    let calls = c.args.calls.now in
    let choice = c.args.choice.now in
    let chosen : ℕ × ℕ = get_or choice l.sector-index (0, 0) in
    let value : nth_written calls chosen.0 chosen.1 ≡ Some c.in-Some.value.now = sym c.nth_written.ensures ∙ ap option_copied c.in-Some.is in
    let inside = nth_inside (length c.args.image.now.items) calls chosen.0 chosen.1 c.in-Some.value.now c.requires value in
    let fits : 512 * chosen.0 + length c.in-Some.value.now ≤ length l.image.items = omega (arith, inside.0, inside.1, l.invariant.size) in
    let same = get_or_default choice l.sector-index chosen (0, 0) c.loop-sector-test.true in
    let next = choice_on calls l.image.items choice l.sector-index chosen c.in-Some.value.now c.loop-sector-test.true same value in
    record {
      size = ap length c.put.ensures ∙ length-overwritten l.image.items chosen.0 c.in-Some.value.now fits ∙ l.invariant.size;
      rest = ap (λ (i : Image). with_choice calls i (drop (l.sector-index + 1) choice)) c.put.ensures ∙ sym next ∙ l.invariant.rest;
    }
