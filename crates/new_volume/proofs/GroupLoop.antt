-- The metadata of the groups, written one after the other.
use Rattle.std.proofs.Common.{◌≡◌, ◌≤◌, ◌<◌, ℕ, zero, suc, ◌+◌, ◌*◌, ◌-◌, List, [], ◌∷◌, ◌++◌, append_assoc, Result, sym, ◌∙◌, ap, subst, arith}
use Rattle.std.specs.Prelude.{◌==◌}
use Rattle.std.proofs.lemmas.List.FromFn.{map-range_with_len_more}
use Rattle.std.proofs.lemmas.List.{append-nil}
use Rattle.std.proofs.lemmas.Bool.{cond-false, ne_eqb}
use Rattle.lufs_base.specs.Layout.{group_start}
use Rattle.lufs_base.specs.declared.geometry.Geometry.{Geometry}
use Rattle.volume_model.specs.declared.device_call.DeviceCall.{DeviceCall}
use Rattle.volume_model.specs.declared.device_call.DeviceCall.TheVariants.{Write}
use Rattle.sector_disk.specs.Disk.{DiskTold, HasMade, Makes, NoneFailed}
use Rattle.sector_disk.proofs.MadeCalls.{HasBegun, begun_more, begun_then, made_then, CanCount}
use Rattle.new_volume.specs.Mkfs.{IsRoom, metadata_with, other_metadata, group_call, group_calls}

-- the first n groups are written
pub record HasGroups (g : Geometry) (first other : List ℕ) (n : ℕ) (old new : DiskTold) : Type 0 where
  pub made : HasMade (group_calls g first n) old new
  pub room : IsRoom g other
  pub none_failed : NoneFailed old new

-- the call that writes group n, by the number of its first sector
pub same_call : (g : Geometry) (first bytes : List ℕ) (n at : ℕ) → at ≡ 8 * group_start g n → bytes ≡ metadata_with g first n → Write at bytes ∷ [] ≡ group_call g first n ∷ []
same_call g first bytes n at place is = ap (λ (k : ℕ). Write k bytes ∷ []) place ∙ ap (λ (l : List ℕ). Write (8 * group_start g n) l ∷ []) is

more_calls : (g : Geometry) (first : List ℕ) (n : ℕ) → group_calls g first (n + 1) ≡ group_calls g first n ++ group_call g first n ∷ []
more_calls g first n = map-range_with_len_more (group_call g first) 0 n n (omega arith)

-- the write of group n is the call that writes it
pub group_makes : {T E : Type 0} (result : Result T E) (g : Geometry) (first bytes : List ℕ) (n at : ℕ) (old new : DiskTold) → at ≡ 8 * group_start g n → bytes ≡ metadata_with g first n
    → Makes (Write at bytes ∷ []) result old new → Makes (group_call g first n ∷ []) result old new
group_makes result g first bytes n at old new place is makes = subst (λ (calls : List DeviceCall). Makes calls result old new) (same_call g first bytes n at place is) makes

pub next_made : (g : Geometry) (first : List ℕ) (n : ℕ) (old mid new : DiskTold) → HasMade (group_calls g first n) old mid → HasMade (group_call g first n ∷ []) mid new
    → HasMade (group_calls g first (n + 1)) old new
next_made g first n old mid new made next =
    subst (λ (calls : List DeviceCall). HasMade calls old new) (sym (more_calls g first n)) (made_then (group_calls g first n) (group_call g first n ∷ []) old mid new made next)

-- the calls of the first groups stand before those of all
calls_from : (g : Geometry) (first : List ℕ) (n more : ℕ) → (rest : List DeviceCall) × (group_calls g first (n + more) ≡ group_calls g first n ++ rest)
calls_from g first n zero = ([], ap (λ (k : ℕ). group_calls g first k) (let same : n + zero ≡ n = omega arith in same) ∙ sym (append-nil (group_calls g first n)))
calls_from g first n (suc more) =
    let before = calls_from g first n more in (
      before.0 ++ group_call g first (n + more) ∷ [],
      ap (λ (k : ℕ). group_calls g first k) (let same : n + suc more ≡ n + more + 1 = omega arith in same) ∙ more_calls g first (n + more)
          ∙ ap (λ (calls : List DeviceCall). calls ++ group_call g first (n + more) ∷ []) before.1 ∙ append_assoc (group_calls g first n) before.0 (group_call g first (n + more) ∷ []),
    )

calls_begun : (g : Geometry) (first : List ℕ) (n groups : ℕ) (old new : DiskTold) → n ≤ groups → HasBegun (group_calls g first n) old new → HasBegun (group_calls g first groups) old new
calls_begun g first n groups old new within begun =
    let rest = calls_from g first n (groups - n) in
    let all : group_calls g first groups ≡ group_calls g first n ++ rest.0 = ap (λ (k : ℕ). group_calls g first k) (let same : groups ≡ n + (groups - n) = omega (arith, within) in same) ∙ rest.1 in
    subst (λ (calls : List DeviceCall). HasBegun calls old new) (sym all) (begun_more (group_calls g first n) rest.0 old new begun)

pub groups_begun : (g : Geometry) (first : List ℕ) (n groups : ℕ) (old mid new : DiskTold) → n < groups → CanCount old → HasMade (group_calls g first n) old mid
    → HasBegun (group_call g first n ∷ []) mid new → HasBegun (group_calls g first groups) old new
groups_begun g first n groups old mid new within fits made begun =
    let here : HasBegun (group_calls g first (n + 1)) old new =
    subst (λ (calls : List DeviceCall). HasBegun calls old new) (sym (more_calls g first n)) (begun_then (group_calls g first n) (group_call g first n ∷ []) old mid new fits made begun) in
    calls_begun g first (n + 1) groups old new (omega (arith, within)) here

pub metadata_behind : (g : Geometry) (first bytes : List ℕ) (n : ℕ) → 1 ≤ n → bytes ≡ other_metadata g n → bytes ≡ metadata_with g first n
metadata_behind g first bytes n later is = is ∙ sym (cond-false (n == 0) first (other_metadata g n) (ne_eqb n 0 (λ same. omega (arith, same, later))))

pub all_begun : (g : Geometry) (first : List ℕ) (groups : ℕ) (old new : DiskTold) → 1 ≤ groups → HasBegun (group_call g first 0 ∷ []) old new → HasBegun (group_calls g first groups) old new
all_begun g first groups old new some begun = calls_begun g first 1 groups old new some begun
