use Rattle.std.proofs.Common.{ℕ, ◌*◌, ◌<◌, List, length, take, ap, ◌∙◌, arith}
use Rattle.std.proofs.lemmas.List.{get_or_read}
use Rattle.lufs_base.specs.Fields.{put_at, field_bytes}
use Rattle.volume_model.specs.Format.{pointer_bytes}
use Rattle.indirect_blocks.proofs.Numbers.{written_more, written_all}
use Rattle.indirect_blocks.proofs.pointers.write_pointers.Goals as goal

pub loop-i-preserved : goal.loop-i-preserved
loop-i-preserved c =
    let numbers = c.pointers.inside.numbers.items in
    let i = c.loop-i.i in
    let below : i < length numbers = omega (arith, c.pointers.invariant) in
    let read = get_or_read numbers i c.index.result.now below c.index.ensures 0 in
    c.put_u32.ensures ∙ ap (λ (out : List ℕ). put_at out (4 * i) (field_bytes 4 c.index.result.now)) c.loop-i.invariant
    ∙ ap (λ (n : ℕ). put_at (put_at c.args.out.now 0 (pointer_bytes (take i numbers))) (4 * i) (field_bytes 4 n)) read ∙ written_more numbers c.args.out.now i 0 below

pub returns : goal.returns
returns c =
    let numbers = c.pointers.inside.numbers.items in
    c.loop-i.invariant ∙ written_all numbers c.args.out.now c.loop-i.i (omega (arith, c.pointers.invariant)) (omega (arith, c.requires)) ∙ ap pointer_bytes c.pointers.view_is
