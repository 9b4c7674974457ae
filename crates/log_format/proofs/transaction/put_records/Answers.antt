use Rattle.std.proofs.Common.{◌≡◌, ℕ, ◌+◌, ◌-◌, ◌++◌, length, replicate, refl, sym, ap, ◌∙◌, arith}
use Rattle.lufs_base.specs.Fields.{put_at}
use Rattle.volume_model.specs.Log.{commit_record, records_of}
use Rattle.log_format.proofs.Placed.{clear_rest}
use Rattle.log_laws.proofs.TxSize.{length-records_of}
use Rattle.log_format.proofs.TxRecords.{commit_behind}
use Rattle.log_format.proofs.transaction.put_records.Goals as goal

pub returns : goal.returns
returns c =
    let deltas = c.args.deltas.now in
    let tid = c.args.tid in
    let end = c.put_deltas-end.result in
    let out = c.put_head.new.out in
    let size : length (records_of deltas tid) ≡ end + 16 = length-records_of deltas tid ∙ ap (λ (n : ℕ). n + 16) (sym c.put_deltas-end.ensures.end) in
    let front = commit_behind deltas tid (length deltas) c.put_deltas-end.new.out out end (end + 16) refl (omega arith) refl
    (c.put_head.ensures ∙ ap (λ (n : ℕ). put_at c.put_deltas-end.new.out end (commit_record n (length deltas))) c.from.ensures) c.put_deltas-end.ensures.bytes in
    let left : length out - (end + 16) ≡ length c.args.out.now - length (records_of deltas tid) = omega (arith, size) in
    clear_rest out c.clear.new.out (records_of deltas tid) (end + 16) _ refl c.clear.ensures front
    ∙ ap (λ (n : ℕ). records_of deltas tid ++ replicate n 0) left
