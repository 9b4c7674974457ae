use Rattle.std.proofs.Common.{◌+◌, length, ap, sym, ◌∙◌, arith, length-append}
use Rattle.std.specs.List.{flat_map}
use Rattle.volume_model.specs.Log.{delta_record}
use Rattle.log_format.proofs.TxRecords.{record_fits, record_more, records_step}
use Rattle.log_format.proofs.transaction.put_deltas.Goals as goal

pub put_delta-at-requires : goal.put_delta-at-requires
put_delta-at-requires c =
    record_fits c.args.deltas.now c.delta-item.result c.loop-delta.delta-index c.loop-delta.at _ (omega arith) c.delta-item.is c.loop-delta.invariant.end
    (omega (arith, c.loop-delta.invariant.size))

pub loop-delta-preserved : goal.loop-delta-preserved
loop-delta-preserved c =
    let deltas = c.args.deltas.now in
    let d = c.delta-item.result in
    let i = c.loop-delta.delta-index in
    let fits = record_fits deltas d i c.loop-delta.at (length c.loop-delta.out) (omega arith) c.delta-item.is c.loop-delta.invariant.end (omega (arith, c.loop-delta.invariant.size)) in
    let more = record_more deltas d i (omega arith) c.delta-item.is in
    record {
      end = c.put_delta-at.ensures.end
          ∙ ap (λ n. n + length (delta_record d)) c.loop-delta.invariant.end
          ∙ sym (length-append (flat_map delta_record _) (delta_record d)) ∙ ap length more;
      size = omega arith;
      front = records_step deltas d c.loop-delta.out c.put_delta-at.new.out i c.loop-delta.at c.put_delta-at.result (omega arith) c.delta-item.is (omega (arith, fits))
          c.put_delta-at.ensures.end c.put_delta-at.ensures.bytes c.loop-delta.invariant.front;
    }
