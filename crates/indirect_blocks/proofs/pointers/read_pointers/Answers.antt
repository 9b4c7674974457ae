use Rattle.std.proofs.Common.{◌≡◌, ◌*◌, ap, ◌∙◌, arith, length}
use Rattle.std.proofs.lemmas.List.FromFn.{map-range_with_len_more, length-map-range_with_len}
use Rattle.lufs_base.specs.Fields.{u32_at}
use Rattle.indirect_blocks.proofs.pointers.read_pointers.Goals as goal

pub loop-i-preserved : goal.loop-i-preserved
loop-i-preserved c =
    let more = map-range_with_len_more (λ i. u32_at c.args.bytes.now (4 * i)) 0 c.loop-i.i c.loop-i.i (omega arith) in
    cc (more, c.in_ok-push.ensures.items)

pub invariant_of-result : goal.invariant_of-result
invariant_of-result c =
    let all : c.loop-i.i ≡ 1024 = omega arith in
    ap length c.loop-i.invariant ∙ length-map-range_with_len (λ i. u32_at c.args.bytes.now (4 * i)) 0 c.loop-i.i ∙ all

pub returns : goal.returns
returns c =
    let all : c.loop-i.i ≡ 1024 = omega arith in
    rw all at c.loop-i.invariant
