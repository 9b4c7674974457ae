-- The bits of the groups that a check keeps.
use Rattle.std.specs.Prelude.{◌≡◌, ◌<◌, ℕ, ◌+◌, ◌-◌, ◌/◌, ◌%◌, Bool, false, ◌&&◌, List, slice_get}
use Rattle.std.specs.Option.{option_map_or}
use Rattle.lufs_base.specs.Layout.{group_start}
use Rattle.lufs_base.specs.declared.geometry.Geometry.{Geometry}
use Rattle.volume_model.specs.Format.{bit_at, is_body}
use Rattle.volume_model.specs.Sound.{differ}
use Rattle.cyl_groups.specs.declared.group.Group.{Group}
use Rattle.fsck_core.specs.declared.claims.Claims.{Claims}

-- the bit of block b of a group, among these groups
abbrev pub block_bit_among : Geometry → List Group → ℕ → Bool
block_bit_among g groups b =
    option_map_or (λ x. bit_at x.block_bits ((b - group_start g 0) % g.bpg)) (slice_get groups ((b - group_start g 0) / g.bpg)) false

-- b is a body block, and its bit among these groups doesn't say whether it is claimed
unfoldable pub has_other_bit : Geometry → List Group → Claims → ℕ → Bool
has_other_bit g groups claims b = is_body g b && differ (block_bit_among g groups b) (bit_at claims.bits.items b)

-- Of the first so many blocks of group n the bit of each that is a body block says whether it is claimed.
abbrev pub BlocksAgree : Geometry → ℕ → Group → Claims → (count : ℕ) → Type 0
BlocksAgree g n x claims count =
    (k : ℕ) → g.ipg / 32 < k → k < count → bit_at x.block_bits k ≡ bit_at claims.bits.items (group_start g n + k)
