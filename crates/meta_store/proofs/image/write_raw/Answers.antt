use Rattle.std.proofs.Common.{◌≡◌, ◌<◌, ◌≤◌, ◌+◌, ◌*◌, List, ◌++◌, ◌∷◌, [], length, take, ap, sym, ◌∙◌, arith}
use Rattle.std.proofs.lemmas.List.{take_more}
use Rattle.std.proofs.lemmas.List.Elements.{All-get_or}
use Rattle.lufs_base.specs.Fields.{put_at}
use Rattle.volume_model.specs.Format.{Image}
use Rattle.volume_model.specs.Crash.{image_after}
use Rattle.meta_store.specs.declared.change.RawWrite.{RawWrite}
use Rattle.meta_store.specs.Changes.{writes_of}
use Rattle.meta_store.proofs.PutBytes.{length-put_at, raw_more}
use Rattle.meta_store.proofs.image.write_raw.Goals as goal

pub loop-write-preserved : goal.loop-write-preserved
loop-write-preserved c =
    let raw : List RawWrite = c.args.raw.now in
    let old : Image = c.args.image.now.items in
    let l = c.loop-write in
    let w = c.write-item.result in
    let i = l.write-index in
    let inside : i < length raw = omega arith in
    let more : take (i + 1) raw ≡ take i raw ++ w ∷ [] = take_more raw i w inside ∙ ap (λ (x : RawWrite). take i raw ++ x ∷ []) (sym c.write-item.is) in
    let fits : 512 * w.first + length w.bytes ≤ length old = rw c.write-item.is (All-get_or (λ w. 512 * w.first + length w.bytes ≤ length old) raw i w inside c.requires) in
    let step : c.put.new.image.items ≡ put_at l.image.items (512 * w.first) w.bytes = c.put.ensures ∙ ap (λ (bytes : List _). put_at l.image.items (512 * w.first) bytes) c.as_slice.ensures in
    record {
      image = step ∙ ap (λ (image : Image). put_at image (512 * w.first) w.bytes) l.invariant.image ∙ sym (raw_more old (take i raw) w) ∙ ap (λ (ws : List RawWrite). image_after old (writes_of ws)) (sym more);
      size = ap length step ∙ length-put_at l.image.items (512 * w.first) w.bytes (omega (arith, fits, l.invariant.size)) ∙ l.invariant.size;
    }
