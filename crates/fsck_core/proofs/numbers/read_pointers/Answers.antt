use Rattle.std.proofs.Common.{ℕ, ◌*◌, ◌<◌, map, length, sym, ◌∙◌, arith}
use Rattle.std.proofs.lemmas.List.{ext_get_or, length-map}
use Rattle.std.proofs.lemmas.List.FromFn.{length-range_with_len, get_or-map-range_with_len}
use Rattle.std.specs.List.{range_with_len}
use Rattle.lufs_base.specs.Fields.{u32_at}
use Rattle.fsck_core.proofs.numbers.read_pointers.Goals as goal

pub returns : goal.returns
returns c =
    let l = c.loop-i in
    let n = length c.args.out.now in
    let f : ℕ → ℕ = λ i. u32_at c.args.bytes.now (4 * i) in
    ext_get_or 0 l.out (map f (range_with_len 0 n)) (omega (arith, l.invariant.size, length-map (range_with_len 0 n) f, length-range_with_len 0 n)) (λ k below.
    let fits : k < n = omega (arith, below, l.invariant.size) in
    l.invariant.are k (omega (arith, fits, c.loop-i-test.false, l.invariant.size)) ∙ sym (get_or-map-range_with_len f 0 n k k 0 fits (omega arith)))
