use Rattle.std.proofs.Common.{◌≡◌, length, take}
use Rattle.volume_model.specs.Crash.{image_after}
use Rattle.meta_store.specs.Changes.{writes_of}
use Rattle.meta_store.proofs.image.write_raw.Given as goal

abbrev pub invariant-loop-write : goal.invariant-loop-write
invariant-loop-write l =
    record {
      image : l.image.items ≡ image_after l.initial.image.items (writes_of (take l.write-index l.raw));
      size : length l.image.items ≡ length l.initial.image.items;
    }
