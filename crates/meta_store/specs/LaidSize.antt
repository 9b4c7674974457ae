-- What is laid over an image leaves its size, so a store tells a content of the volume's blocks.
use Rattle.std.proofs.Common.{◌≡◌, ◌≤◌, ℕ, ◌/◌, ◌%◌, List, length, slice_index, Option, Some, None, IfSome, ap, sym, subst, ◌∙◌}
use Rattle.std.specs.Option.{option_map}
use Rattle.std.proofs.lemmas.List.FromFn.{length-map-range_with_len}
use Rattle.lufs_base.specs.declared.delta.Delta.{Delta}
use Rattle.volume_model.specs.Format.{Image, sectors_of}
use Rattle.meta_store.specs.Laid.{laid_byte, laid_over}

pub length-laid_over : (deltas_of : ℕ → List Delta) (image : Image) → length (laid_over deltas_of image) ≡ length image
unfolding laid_over
length-laid_over deltas_of image =
    length-map-range_with_len (λ address. laid_byte (deltas_of (address / 4096)) (address % 4096) (slice_index image address)) 0 (length image)

pub laid_size : (deltas_of : ℕ → List Delta) (present : Option Image) (sectors blocks : ℕ) → IfSome present (λ image. sectors_of image ≡ sectors) → blocks ≤ sectors
    → IfSome (option_map (laid_over deltas_of) present) (λ image. blocks ≤ sectors_of image)
laid_size deltas_of None sectors blocks size room = tt
laid_size deltas_of (Some image) sectors blocks size room =
    let same : sectors_of (laid_over deltas_of image) ≡ sectors = ap (λ (n : ℕ). n / 512) (length-laid_over deltas_of image) ∙ size in
    subst (λ (n : ℕ). blocks ≤ n) (sym same) room
