use Rattle.std.proofs.Common.{◌≡◌, drop, length}
use Rattle.volume_model.specs.Crash.{image_after}
use Rattle.sector_disk.proofs.image.lay.Given as goal

abbrev pub invariant-loop-call : goal.invariant-loop-call
invariant-loop-call l = record {
  size : length l.image.items ≡ length l.initial.image.items;
  rest : image_after l.image.items (drop l.call-index l.calls) ≡ image_after l.initial.image.items l.calls;
}
