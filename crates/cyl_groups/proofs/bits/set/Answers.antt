use Rattle.std.proofs.Common.{◌/◌, ◌%◌, slice_index, w8, arith}
use Rattle.std.proofs.lemmas.Nat.Bits.{bit_at_set_same, bit_at_set_other}
use Rattle.cyl_groups.proofs.BitChanges.{byte_put}
use Rattle.cyl_groups.proofs.bits.set.Goals as goal

pub returns : goal.returns
returns c =
    let i = c.args.i in
    let old = slice_index c.args.bits.now (i / 8) in
    byte_put c.args.bits.now i _ 1 c.requires (bit_at_set_same w8 old (i % 8) (omega arith)) (λ k below apart. bit_at_set_other w8 old (i % 8) (omega arith) k apart)
