use Rattle.std.proofs.Common.{◌≡◌, ◌+◌, ◌≤◌, ◌-◌, length, take, drop, Some, refl, ap, subst, ◌∙◌, arith, length-drop}
use Rattle.std.proofs.lemmas.List.{take_rest}
use Rattle.volume_model.specs.Log.{logged_len}
use Rattle.log_format.specs.RunReading.{FitsIn}
use Rattle.log_format.specs.declared.run_reader.Found.{Found}
use Rattle.log_format.specs.declared.run_reader.Found.TheVariants.{Logged as delta_found, Wrong as wrong_found}
use Rattle.log_format.proofs.ReaderSteps.{finds_at, skipped_none, skipped_more, bad_after}
use Rattle.log_format.proofs.run_reader.skip_deltas.Goals as goal

pub loop-head-init : goal.loop-head-init
loop-head-init c = record {
  inside = omega arith;
  counted = c.requires.counted;
  bytes = omega arith;
  bodies = c.none-homes.ensures c.args.g.now;
  skipped = skipped_none c.args.g.now c.args.tid c.args.bytes.now c.args.tally.now;
}

pub loop-head-preserved : goal.loop-head-preserved
loop-head-preserved c =
    let g = c.args.g.now in
    let l = c.loop-head in
    let bytes = c.args.bytes.now in
    let head = c.in-Logged.head in
    let size : 16 + c.logged_len.result ≡ 16 + logged_len head.kind head.len = ap (λ n. 16 + n) c.logged_len.ensures in
    let found = finds_at g c.args.tid l.at bytes l.tally c.find_front.result (delta_found head) c.in-Logged.is c.find_front.ensures.value in
    let inside : FitsIn (take (length bytes - l.at) (drop l.at bytes)) (delta_found head) =
    subst (λ (f : Found). FitsIn (take (length bytes - l.at) (drop l.at bytes)) f) c.in-Logged.is c.find_front.ensures.fits in
    let rest : length (take (length bytes - l.at) (drop l.at bytes)) ≡ length bytes - l.at = ap length (take_rest bytes l.at) ∙ length-drop l.at bytes in
    let fits : l.at + (16 + c.logged_len.result) ≤ length bytes = omega (arith, inside, rest, size) in
    record {
      inside = fits;
      counted = omega (arith, l.invariant.counted);
      bytes = omega (arith, l.invariant.bytes);
      bodies = c.find_front.ensures.bodies;
      skipped = skipped_more g c.args.tid l.at (16 + c.logged_len.result) bytes c.args.tally.now l.tally
          (record { deltas = l.tally.deltas + 1; bytes = l.tally.bytes + (16 + c.logged_len.result); last = Some head }) head l.invariant.skipped found size refl refl refl;
    }

pub returns-in-Wrong-clause-bad : goal.returns-in-Wrong-clause-bad
returns-in-Wrong-clause-bad c =
    λ _.
    bad_after c.args.g.now c.args.tid c.loop-head.at c.args.bytes.now c.args.tally.now c.loop-head.tally c.loop-head.invariant.skipped
    (finds_at c.args.g.now c.args.tid c.loop-head.at c.args.bytes.now c.loop-head.tally c.find_front.result wrong_found c.in-Wrong.is c.find_front.ensures.value)
