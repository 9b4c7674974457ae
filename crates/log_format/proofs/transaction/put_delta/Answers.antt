use Rattle.std.proofs.Common.{ℕ, List, ◌+◌, ap, ◌∙◌, arith}
use Rattle.lufs_base.specs.Fields.{put_at}
use Rattle.volume_model.specs.Log.{record_head}
use Rattle.volume_model.proofs.Pieces.{pieces}
use Rattle.log_format.proofs.transaction.put_delta.Goals as goal

pub returns-clause-bytes : goal.returns-clause-bytes
returns-clause-bytes c =
    let d = c.args.delta.now in
    let at = c.args.at in
    c.put_bytes.ensures
    ∙ ap (λ (l : List ℕ). put_at c.put_head.new.out (at + 16) l) c.as_slice.ensures
    ∙ ap (λ (l : List ℕ). put_at l (at + 16) d.bytes) (c.put_head.ensures
    ∙ ap (λ (n : ℕ). put_at c.args.out.now at (record_head d.home d.len n)) c.type_of.ensures)
    ∙ pieces c.args.out.now (record_head d.home d.len _) d.bytes at (at + 16) (omega arith) (omega arith)
