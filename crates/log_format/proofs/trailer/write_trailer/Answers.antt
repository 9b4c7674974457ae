use Rattle.std.proofs.Common.{ℕ, List, ap, ◌∙◌, arith}
use Rattle.lufs_base.specs.Fields.{field_bytes, put_at}
use Rattle.volume_model.specs.Log.{trailer_bytes}
use Rattle.volume_model.proofs.Pieces.{pieces}
use Rattle.log_format.proofs.Placed.{put_last}
use Rattle.log_format.proofs.trailer.write_trailer.Goals as goal

pub returns : goal.returns
returns c =
    c.put_u32-2.ensures
    ∙ ap (λ (l : List ℕ). put_at l 508 (field_bytes 4 c.args.trailer.now.ident)) c.put_u32.ensures
    ∙ pieces c.args.out.now (field_bytes 4 c.args.trailer.now.tid) (field_bytes 4 c.args.trailer.now.ident) 504 508 (omega arith) (omega arith)
    ∙ put_last c.args.out.now (trailer_bytes c.args.trailer.now) 504 (omega arith)
