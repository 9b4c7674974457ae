-- What a PlainStore tells: its image, in which every free body block is released, and all deltas that were applied.
use Rattle.std.specs.Prelude.{ℕ, Bool, not, ◌&&◌, List, None}
use Rattle.lufs_base.specs.declared.geometry.Geometry.{Geometry}
use Rattle.lufs_base.specs.declared.delta.Delta.{Delta}
use Rattle.volume_model.specs.Format.{Image, block, is_body}
use Rattle.volume_model.specs.Sound.{reading_of, block_bit, is_among}
use Rattle.meta_store.specs.Changing.{Changing}

-- b is a body block, and its bit is clear
abbrev pub is_free : Geometry → Image → ℕ → Bool
is_free g image b = is_body g b && not (block_bit g (reading_of g (block image)) b)

abbrev pub plain_changing : Geometry → Image → List Delta → (taken freed : List ℕ) → Changing
plain_changing g image held taken freed = record {
  is_released = is_free g image;
  held = held;
  is_taken = λ b. is_among b taken;
  is_freed = λ b. is_among b freed;
  room = None;
}
