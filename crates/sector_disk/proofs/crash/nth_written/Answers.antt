use Rattle.std.proofs.Common.{arith, ◌≡◌, ◌<◌, ◌+◌, ◌-◌, ◌*◌, ◌/◌, ℕ, List, length, take, drop, Some, sym, ◌∙◌, ap}
use Rattle.std.specs.Prelude.{slice_get}
use Rattle.volume_model.specs.Crash.{written_to}
use Rattle.sector_disk.proofs.CrashSteps.{found}
use Rattle.sector_disk.proofs.crash.nth_written.Goals as goal

pub returns-then-left-eq0 : goal.returns-then-left-eq0
returns-then-left-eq0 c =
    let l = c.loop-call in
    let calls = c.args.calls.now in
    let sector = c.args.sector in
    let bytes = c.as_slice-bytes.result.now in
    let at = 512 * (sector - c.in-Write.first) in
    let size : at + 512 - at ≡ 512 = omega arith in
    let high : sector - c.in-Write.first < length c.in-Write.bytes / 512 = omega (arith, c.if-sector-first.true, ap length c.as_slice-bytes.ensures) in
    let here = found calls l.call-index sector c.call-item.result c.in-Write.first c.in-Write.bytes c.loop-call-test.true (sym c.call-item.is ∙ c.in-Write.is) c.if-first-sector.true high in
    ap (λ (n : ℕ). Some (take n (drop at bytes))) size ∙ ap (λ (b : List ℕ). Some (take 512 (drop at b))) c.as_slice-bytes.ensures
    ∙ sym (l.invariant ∙ ap (λ (n : ℕ). slice_get (written_to sector (drop l.call-index calls)) n) c.if-left-eq0.true ∙ here)
