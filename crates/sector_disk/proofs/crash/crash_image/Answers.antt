use Rattle.std.proofs.Common.{rules, ◌≡◌, ◌-◌, ℕ, length, take, drop, sym, ap, ◌∙◌, subst, refl}
use Rattle.std.proofs.lemmas.List.{take_rest}
use Rattle.volume_model.specs.Format.{Image}
use Rattle.volume_model.specs.Crash.{flushed, pending, image_after}
use Rattle.volume_model.proofs.Calls.{flushed-pending}
use Rattle.volume_model.proofs.Outcomes.{AllInside, inside_left, inside_right, length-image_after}
use Rattle.sector_disk.proofs.crash.crash_image.Goals as goal

pub lay_chosen-requires : goal.lay_chosen-requires
lay_chosen-requires c =
    let calls = c.args.calls.now in
    let size = length c.args.opening.now in
    let parts = subst (AllInside size) (sym (flushed-pending calls)) c.requires in
    let copied : c.in_ok-image.image.items ≡ c.args.opening.now = search rules in
    let image : c.lay.new.image.items ≡ image_after c.args.opening.now (flushed calls) =
    c.lay.ensures ∙ ap (λ (i : Image). image_after i (take c.flushed_len-end.result calls)) copied ∙ ap (image_after c.args.opening.now) c.flushed_len-end.ensures.flushed in
    let same : length c.lay.new.image.items ≡ size = ap length image ∙ length-image_after c.args.opening.now (flushed calls) size refl (inside_left size (flushed calls) (pending calls) parts) in
    let rest : take (length calls - c.flushed_len-end.result) (drop c.flushed_len-end.result calls) ≡ pending calls = take_rest calls c.flushed_len-end.result ∙ c.flushed_len-end.ensures.pending in
    subst (λ (n : ℕ). AllInside n (take (length calls - c.flushed_len-end.result) (drop c.flushed_len-end.result calls))) (sym same)
    (subst (AllInside size) (sym rest) (inside_right size (flushed calls) (pending calls) parts))
