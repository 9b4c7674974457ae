-- A change that a store may take is a step of the journal whose running version it may.tells.
use Rattle.std.proofs.Common.{◌≡◌, ◌≤◌, ℕ, ◌*◌, Bool, true, List, [], length, take, Option, Some, None, IfSome, refl, sym, ap, subst, ◌∙◌, arith, ◌||◌}
use Rattle.std.specs.Prelude.{All, IsSomeAnd, slice_index_or}
use Rattle.lufs_base.specs.Layout.{blocks_of}
use Rattle.lufs_base.specs.declared.geometry.Geometry.{Geometry}
use Rattle.volume_model.specs.declared.hand.Hand.{Hand}
use Rattle.volume_model.specs.Format.{Image, block}
use Rattle.volume_model.specs.Crash.{Record, present_of, image_after}
use Rattle.volume_model.specs.Log.{AreLoggable, delta_bytes}
use Rattle.volume_model.specs.Sound.{Reading, reading_of, block_bit, is_among, IsStored, tree_of, shape_of}
use Rattle.volume_model.proofs.ReplayLaws.{length-replayed}
use Rattle.volume_laws.proofs.SoundParts.{in_parts}
use Rattle.journal_model.specs.Journals.{Journal}
use Rattle.journal_model.specs.Versions.{Running, txs_of, content_of}
use Rattle.journal_model.specs.BlockRoles.{Role, Roles, Changes, moved, is_claimed}
use Rattle.journal_model.specs.Batches.{is_released}
use Rattle.journal_model.specs.Changes.{MovesRoles, MovesDeltas}
use Rattle.journal_model.specs.Safety.{IsSafe}
use Rattle.journal_model.specs.Steps.{Step, Apply}
use Rattle.journal_laws.proofs.Outcomes.{blocks_fit}
use Rattle.journal_laws.proofs.RollFacts.{geometry_at_home}
use Rattle.history_laws.specs.Applied.{IsMadeBy}
use Rattle.history_laws.specs.Published.{AreRolesOf, reading_in}
use Rattle.history_laws.specs.Volumes.{IsRunningAs}
use Rattle.history_laws.specs.VolumeRoles.{role_of}
use Rattle.history_laws.proofs.ChangedContents.{same_front_of, changed_reading, changed_running}
use Rattle.history_laws.proofs.VolumeRolesLaws.{roles_of_volume}
use Rattle.journal_laws.proofs.KeptSteps.{geometry_of_safe}
use Rattle.meta_store.specs.declared.change.Change.{Change as StoreChange}
use Rattle.meta_store.specs.declared.change.RawWrite.{RawWrite}
use Rattle.meta_store.specs.Suited.{suits}
use Rattle.meta_store.specs.Changing.{AllTold}
use Rattle.meta_store.specs.Changes.{writes_of, changed, deltas_on}
use Rattle.meta_store.specs.Laid.{laid_over}
use Rattle.meta_store.specs.Merged.{all_merged}
use Rattle.meta_store.specs.Conditions.{MayFollow}
use Rattle.store_laws.specs.Tied.{IsRead, MayChange, running_image, as_applied, journal_after}
use Rattle.store_laws.proofs.MovedRoles.{moves_roles, live_after}
use Rattle.store_laws.proofs.MovedDeltas.{moves_deltas, suited_after}
use Rattle.store_laws.proofs.MadeBy.{laid_is_made}

-- what a change asks of a told content and a told geometry
pub follows_told : (change : StoreChange) (taken : ℕ → Bool) (g told : Geometry) (base : Image) (content : Option Image) → told ≡ g → content ≡ Some base
    → IfSome content (λ image. MayFollow told change taken (reading_of told (block image)) (reading_of told (block (changed change image))))
    → MayFollow g change taken (reading_of g (block base)) (reading_of g (block (changed change base)))
follows_told change taken g told base content same is follows =
    subst (λ (h : Geometry). MayFollow h change taken (reading_of h (block base)) (reading_of h (block (changed change base)))) same
    (subst (λ (o : Option Image). IfSome o (λ image. MayFollow told change taken (reading_of told (block image)) (reading_of told (block (changed change image))))) is follows)

room_told : (told : Option ℕ) (bytes unspent : ℕ) → IfSome told (λ room. bytes ≤ room) → IsSomeAnd told (λ room. room ≤ unspent) → bytes ≤ unspent
room_told None bytes unspent fits room = absurd room
room_told (Some n) bytes unspent fits room = omega (arith, fits, room)

module _ (g : Geometry) (roles : Roles) (r : Record) (j : Journal) (hands then : List Hand) (told : AllTold) (change : StoreChange) (safe : IsSafe g roles r j)
    (may : MayChange g roles r j hands told change then) (none : change.raw ≡ []) where
  abbrev base : Image
  base = content_of g j Running (present_of r)

  abbrev image : Image
  image = changed change base

  abbrev to : ℕ → Role
  to = role_of g (reading_of g (block image))

  stored : IsStored g (reading_of g (block base)) hands
  stored = ((in_parts g (block base) hands).0 may.sound).0

  stored_after : IsStored g (reading_of g (block image)) then
  stored_after = ((in_parts g (block image) then).0 may.sound_after).0

  follows : MayFollow g change (λ b. told.changing.is_taken b || is_among b change.taken) (reading_of g (block base)) (reading_of g (block image))
  follows = follows_told change (λ b. told.changing.is_taken b || is_among b change.taken) g told.read.geometry base told.read.content may.tells.geometry may.tells.content may.takes.content

  are : AreLoggable g change.deltas
  are = subst (λ (h : Geometry). AreLoggable h change.deltas) may.tells.geometry may.takes.deltas

  may_take : All (λ b. is_released j b ≡ true) change.taken
  may_take = λ k e inside. may.tells.released (slice_index_or change.taken k e) (may.takes.taken k e inside)

  pub roles_moved : MovesRoles g roles j (as_applied change) to
  roles_moved =
      moves_roles g (block base) (block image) hands then stored stored_after roles j change (λ b. told.changing.is_taken b || is_among b change.taken) follows are may.read.claimed may.read.owners may_take

  room : delta_bytes change.deltas ≤ j.unspent
  room = room_told told.changing.room (delta_bytes change.deltas) j.unspent may.takes.room may.tells.room

  pub deltas_moved : MovesDeltas g roles j (as_applied change) to (all_merged j.running change.deltas)
  deltas_moved =
      moves_deltas g (block base) (block image) hands then stored stored_after roles r j safe change (λ b. told.changing.is_taken b || is_among b change.taken) follows are may.takes.cancels may.read.claimed may.read.owners
      may.read.suited may_take room

  pub step_of_change : Step g roles (present_of r) j (Changes to) [] (journal_after g j change)
  step_of_change = Apply (as_applied change) to (all_merged j.running change.deltas) roles_moved deltas_moved

  size : 4096 * blocks_of g ≤ length base
  size = omega (arith, length-replayed (present_of r) (txs_of g j Running), blocks_fit g (present_of r) (geometry_at_home g roles r j safe))

  made : IsMadeBy change.deltas base image
  made = subst (λ (w : List RawWrite). IsMadeBy change.deltas base (laid_over (deltas_on change.deltas) (image_after base (writes_of w)))) (sym none) (laid_is_made g change.deltas base are size)

  are_roles : AreRolesOf g to (reading_of g (block image))
  are_roles = roles_of_volume g (block image) then (geometry_of_safe g roles r j safe) may.sound_after

  pub reads_changed : reading_in g (journal_after g j change) (present_of r) Running ≡ reading_of g (block image)
  reads_changed =
      changed_reading g roles r j safe (as_applied change) to (all_merged j.running change.deltas) roles_moved deltas_moved image made then (shape_of (tree_of g (block image))) may.sound_after refl are_roles

  pub running_changed : IsRunningAs g (moved (Changes to) roles) (present_of r) (journal_after g j change) then (shape_of (tree_of g (block image)))
  running_changed =
      let w = changed_running g roles r j safe (as_applied change) to (all_merged j.running change.deltas) roles_moved deltas_moved image made then (shape_of (tree_of g (block image))) may.sound_after refl are_roles in
      record { sound = w.sound; has = w.has; read = w.read }

  -- and has its bytes in each block that is claimed then
  pub bytes_changed : (b n : ℕ) → is_claimed (to b) ≡ true → take n (block (running_image g r (journal_after g j change)) b) ≡ take n (block image b)
  bytes_changed b n claimed = same_front_of g roles r j safe (as_applied change) to (all_merged j.running change.deltas) roles_moved deltas_moved image made b n claimed

  pub read_after : IsRead g (moved (Changes to) roles) (present_of r) (journal_after g j change)
  read_after = record {
    claimed = λ b. ap (λ (s : Reading). role_of g s b) (sym reads_changed);
    owners = λ b body.
        live_after g (block base) (block image) hands then stored stored_after roles j change (λ b. told.changing.is_taken b || is_among b change.taken) follows are may.read.claimed may.read.owners may_take b body
        ∙ ap (λ (s : Reading). block_bit g s b) (sym reads_changed);
    suited = subst (λ (s : Reading). All (λ d. suits g s d ≡ true) (all_merged j.running change.deltas)) (sym reads_changed)
        (suited_after g (block base) (block image) hands then stored stored_after roles r j safe change (λ b. told.changing.is_taken b || is_among b change.taken) follows are may.takes.cancels may.read.claimed may.read.owners
        may.read.suited may_take room);
  }
