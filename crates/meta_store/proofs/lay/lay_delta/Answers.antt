use Rattle.std.proofs.Common.{ℕ, ◌-◌, ◌%◌, List, refl, ap, ◌∙◌}
use borrow.Rule.Slice.PartMut.{put_mid}
use Rattle.meta_store.proofs.LaidParts.{part_laid}
use Rattle.meta_store.proofs.lay.lay_delta.Goals as goal

pub returns : goal.returns
returns c =
    let home = c.args.delta.now.home % 4096 in
    let end = c.min-end.result in
    let old : List ℕ = c.args.block.now in
    ap (λ (part : List ℕ). put_mid home (end - home) old part) c.lay_over_part.ensures
    ∙ part_laid c.args.delta.now old home end c.requires refl c.min-end.ensures
