use Rattle.std.proofs.Common.{ℕ, List, ◌+◌, ◌++◌, ap, ◌∙◌, arith}
use Rattle.lufs_base.specs.Fields.{field_bytes, put_at}
use Rattle.volume_model.proofs.Pieces.{pieces}
use Rattle.log_format.proofs.transaction.put_head.Goals as goal

pub returns : goal.returns
returns c =
    let old = c.args.out.now in
    let at = c.args.at in
    let home = field_bytes 8 c.args.home in
    let len = field_bytes 4 c.args.len in
    let type = field_bytes 4 c.args.record_type in
    c.put_u32-2.ensures
    ∙ ap (λ (l : List ℕ). put_at l (at + 12) type) (c.put_u32.ensures
    ∙ ap (λ (l : List ℕ). put_at l (at + 8) len) c.put_u64.ensures
    ∙ pieces old home len at (at + 8) (omega arith) (omega arith))
    ∙ pieces old (home ++ len) type at (at + 12) (omega arith) (omega arith)
