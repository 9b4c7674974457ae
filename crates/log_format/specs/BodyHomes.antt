-- The homes in the body blocks of a group.
use Rattle.std.specs.Prelude.{◌≡◌, ℕ, ◌+◌, ◌*◌, ◌/◌, ◌<◌, ◌≤◌}
use Rattle.lufs_base.specs.Layout.{blocks_of, group_start, region_of}
use Rattle.lufs_base.specs.declared.geometry.Geometry.{Geometry}
use Rattle.lufs_base.specs.declared.geometry.Region.TheVariants.{Body}
use Rattle.log_format.specs.declared.bodies.BodyHomes.{BodyHomes}

-- each of these homes lies in a body block
abbrev pub AreInBodies : Geometry → BodyHomes → Type 0
AreInBodies g homes = (home : ℕ) → homes.first ≤ home → home < homes.end
    → (home / 4096 < blocks_of g) × ((n : ℕ) × (region_of g (home / 4096) ≡ Body n))

-- the homes in the body blocks of group n
abbrev pub homes_of : Geometry → ℕ → BodyHomes
homes_of g n = record { first = 4096 * (group_start g n + g.ipg / 32 + 1); end = 4096 * (group_start g n + g.bpg) }
