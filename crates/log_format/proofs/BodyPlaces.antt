-- Homes in the body blocks of a group: where they lie, and what may be logged there.
use Rattle.std.proofs.Common.{◌≡◌, ℕ, ◌+◌, ◌/◌, ◌%◌, ◌<◌, ◌≤◌, ◌&&◌, refl, sym, ap, subst, ◌∙◌, arith}
use Rattle.std.proofs.lemmas.Bool.Decides.{nat_tests}
use Rattle.lufs_base.specs.Layout.{IsGeometry, InRegion, group_start, region_of, blocks_of}
use Rattle.lufs_base.specs.declared.geometry.Geometry.{Geometry}
use Rattle.lufs_base.specs.declared.geometry.Region.TheVariants.{Body}
use Rattle.lufs_base.specs.declared.delta.DeltaKind.{DeltaKind}
use Rattle.lufs_base.specs.declared.delta.DeltaKind.TheVariants.{Group, Inode, Chunk, Pointers, Zero, LinkText, Cancel}
use Rattle.lufs_base.proofs.Places.{only_region, group_fits}
use Rattle.volume_model.specs.Log.{is_home_of, is_part_of_block, may_be_logged}
use Rattle.log_format.specs.BodyHomes.{AreInBodies, homes_of}
use Rattle.log_format.specs.declared.bodies.BodyHomes.{BodyHomes}

-- the homes in the body blocks of a group lie in body blocks
pub homes_lie_in_bodies : (g : Geometry) (n : ℕ) → IsGeometry g → n < g.groups → AreInBodies g (homes_of g n)
homes_lie_in_bodies g n ok within = λ home from before.
    let b : ℕ = home / 4096 in
    let next : group_start g (n + 1) ≡ group_start g n + g.bpg = omega arith in
    let behind : group_start g n + g.ipg / 32 < b = omega (arith, from) in
    let ahead : b < group_start g n + g.bpg = omega (arith, before) in
    let lies : InRegion g b (Body n) = (within, behind, omega (arith, ahead, next)) in
    (omega (arith, ahead, group_fits g n within), (n, sym (only_region g b (Body n) ok lies)))

-- homes that were set to those of a group lie in body blocks
pub homes_become_bodies : (g : Geometry) (n : ℕ) (made now : BodyHomes) → IsGeometry g → n < g.groups → made ≡ homes_of g n → now ≡ made → AreInBodies g now
homes_become_bodies g n made now ok within is kept = subst (λ (homes : BodyHomes). AreInBodies g homes) (sym (kept ∙ is)) (homes_lie_in_bodies g n ok within)

-- no group's body blocks take a kind that another's don't
same_in_each_body : (kind : DeltaKind) (n m : ℕ) → is_home_of kind (Body n) ≡ is_home_of kind (Body m)
same_in_each_body Group n m = refl
same_in_each_body Inode n m = refl
same_in_each_body Chunk n m = refl
same_in_each_body Pointers n m = refl
same_in_each_body Zero n m = refl
same_in_each_body LinkText n m = refl
same_in_each_body Cancel n m = refl

-- in a body block the group doesn't matter for what may be logged
pub may_be_logged_in_body : (g : Geometry) (homes : BodyHomes) (kind : DeltaKind) (home len : ℕ) → AreInBodies g homes → homes.first ≤ home → home < homes.end
    → may_be_logged g kind home len ≡ is_home_of kind (Body 0) && is_part_of_block kind (home % 4096) len
unfolding may_be_logged
may_be_logged_in_body g homes kind home len bodies from before =
    let lies = bodies home from before in
    let n : ℕ = lies.1.0 in
    let home_of : is_home_of kind (region_of g (home / 4096)) ≡ is_home_of kind (Body 0) = ap (is_home_of kind) lies.1.1 ∙ same_in_each_body kind n 0 in
    let inside : home / 4096 < blocks_of g = lies.0 in
    grind (arith, nat_tests)
