use Rattle.std.proofs.Common.{◌≡◌, ◌<◌, ◌^◌, ◌++◌, ◌-◌, ℕ, List, length, replicate, sym, ap, subst, ◌∙◌, arith}
use Rattle.lufs_base.specs.declared.delta.Delta.{Delta}
use Rattle.volume_model.specs.declared.log.Trailer.{Trailer}
use Rattle.volume_model.specs.Log.{records_of, carrying}
use Rattle.log_laws.proofs.TxSize.{few_deltas, records_size, payload_filled}
use Rattle.log_format.proofs.transaction.write_tx.Goals as goal

pub put_records-requires-clause-count : goal.put_records-requires-clause-count
put_records-requires-clause-count c =
    subst (λ (deltas : List Delta). length deltas < 2 ^ 32) (sym c.as_slice.ensures)
    (few_deltas c.requires.deltas.0 c.args.deltas.now c.requires.deltas.1 c.requires.deltas.2)

pub put_records-requires-clause-fits : goal.put_records-requires-clause-fits
put_records-requires-clause-fits c =
    let size = records_size c.requires.deltas.0 c.args.deltas.now c.args.tid c.requires.deltas.2 in
    let same : length (records_of c.as_slice.result.now c.args.tid) ≡ length (records_of c.args.deltas.now c.args.tid) =
    ap (λ (deltas : List Delta). length (records_of deltas c.args.tid)) c.as_slice.ensures in
    omega (arith, c.requires.size, size, same)

pub returns : goal.returns
returns c =
    let tid = c.args.tid in
    let size = length c.args.out.now in
    let out_is = c.put_records.ensures
    ∙ ap (λ (deltas : List Delta). records_of deltas tid ++ replicate (size - length (records_of deltas tid)) 0) c.as_slice.ensures in
    let trailer : Trailer = record { tid = tid; ident = c.args.ident } in
    c.make_sectors.ensures
    ∙ ap (λ (payload : List ℕ). carrying trailer payload)
    (payload_filled c.requires.deltas.0 c.args.deltas.now tid size c.put_records.new.out c.requires.deltas.2 c.requires.size (omega arith) out_is)
