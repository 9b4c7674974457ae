use Rattle.std.proofs.Common.{◌≡◌, ◌+◌, ◌-◌, ◌++◌, List, ℕ, length, drop, refl, sym, ap, ◌∙◌, arith, length-append, length-drop}
use Rattle.log_format.specs.declared.run_reader.RunReader.{RunReader}
use Rattle.log_format.proofs.ReaderSteps.{read_more}
use Rattle.log_format.proofs.run_reader.RunReader.feed.Goals as goal

pub returns-clause-read : goal.returns-clause-read
returns-clause-read c =
    let old = c.args.self.now in
    let bytes = c.args.bytes.now in
    let end = c.in_ok-end.end in
    let new : RunReader = record { tid = c.args.self.now.tid; tally = c.skip_deltas.new.tally; kept = c.remove_front.new.bytes; committed = c.in_ok-end.committed } in
    let joined : c.deref.result.now ≡ old.kept.items ++ bytes = c.deref.ensures.value ∙ c.in_ok-extend_from_slice.ensures.items in
    let kept : c.remove_front.new.bytes.items ≡ drop end c.deref.result.now = c.remove_front.ensures ∙ ap (λ (l : List ℕ). drop end l) (sym c.deref.ensures.value) in
    let size : length c.deref.result.now ≡ length old.kept.items + length bytes = ap length joined ∙ length-append old.kept.items bytes in
    let left : length c.remove_front.new.bytes.items ≡ length c.deref.result.now - end = ap length kept ∙ length-drop end c.deref.result.now in
    record {
      tid = refl;
      count = omega (arith, size, left, c.in_ok-end.ensures.at);
      read = λ read has.
          read_more c.args.g.now old new bytes c.deref.result.now read end has refl joined kept c.in_ok-end.ensures.skipped c.in_ok-end.ensures.stop;
    }
