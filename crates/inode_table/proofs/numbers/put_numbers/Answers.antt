use Rattle.std.proofs.Common.{◌≡◌, ℕ, ◌+◌, ◌*◌, [], ◌∷◌, ◌++◌, length, take, get_or, ap, ◌∙◌, arith}
use Rattle.std.proofs.lemmas.List.{take_more, length-take-le}
use Rattle.std.proofs.lemmas.List.Concat.{flat_map-append}
use Rattle.lufs_base.specs.Fields.{field_bytes}
use Rattle.volume_model.specs.Format.{numbers_bytes}
use Rattle.volume_model.proofs.Pieces.{pieces}
use Rattle.inode_table.proofs.Rows.{length-numbers_bytes}
use Rattle.inode_table.proofs.numbers.put_numbers.Goals as goal

pub loop-i-preserved : goal.loop-i-preserved
loop-i-preserved c =
    let front = take c.loop-i.i c.args.numbers.now in
    let n = get_or c.args.numbers.now c.loop-i.i 0 in
    let row : numbers_bytes (take (c.loop-i.i + 1) c.args.numbers.now) ≡ numbers_bytes front ++ field_bytes 4 n =
    ap numbers_bytes (take_more c.args.numbers.now c.loop-i.i 0 (omega arith))
    ∙ flat_map-append (λ (k : ℕ). field_bytes 4 k) front (n ∷ []) in
    let size : length (numbers_bytes front) ≡ 4 * c.loop-i.i =
    omega (arith, length-numbers_bytes front, length-take-le c.loop-i.i c.args.numbers.now (omega arith)) in
    let once = pieces c.args.out.now (numbers_bytes front) (field_bytes 4 n) c.args.at (c.args.at + 4 * c.loop-i.i) (omega arith) (omega arith) in
    let written = c.put_u32.ensures in
    cc
