-- After a step of the journal each version that it carries reads as the one that became it.
use Rattle.std.proofs.Common.{◌≡◌, ℕ, true, List, [], length, refl, sym, ◌∙◌, subst}
use Rattle.std.proofs.lemmas.Bool.{false≢true}
use Rattle.lufs_base.specs.Layout.{IsGeometry}
use Rattle.lufs_base.specs.declared.geometry.Geometry.{Geometry}
use Rattle.volume_model.specs.declared.device_call.DeviceCall.{DeviceCall}
use Rattle.volume_model.specs.declared.hand.Hand.{Hand}
use Rattle.volume_model.specs.Format.{Image, block}
use Rattle.volume_model.specs.Crash.{Record, with_calls, present_of}
use Rattle.volume_model.specs.Sound.{AgreeButInFileBytes, Sound, Tree, tree_of, shape_of}
use Rattle.volume_laws.proofs.SameReading.{reading_same}
use Rattle.volume_laws.proofs.SameTree.{same_shape_of, sound_too}
use Rattle.journal_model.specs.Journals.{Journal}
use Rattle.journal_model.specs.Versions.{Version, Published, Sealed, Running, txs_of, content_of}
use Rattle.journal_model.specs.BlockRoles.{Role, Roles, Move, Stays, Seals, Publishes, Changes, moved, moved_from, is_carried}
use Rattle.journal_model.specs.Safety.{IsSafe}
use Rattle.journal_model.specs.Steps.{Step}
use Rattle.journal_laws.proofs.Outcomes.{size_of_present}
use Rattle.journal_laws.proofs.KeptSteps.{geometry_of_safe, step_keeps, step_versions}
use Rattle.history_laws.specs.Published.{AreRolesOf, reading_in, IsVersionOf}
use Rattle.history_laws.specs.Volumes.{IsRunningAs}
use Rattle.history_laws.proofs.SameMetadata.{agree_by_metadata}

-- the roles of a version that is carried
role_carried : (move : Move) (roles : Roles) (v : Version) → is_carried move v ≡ true → moved move roles v ≡ roles (moved_from move v)
role_carried Stays roles v carried = refl
role_carried Seals roles v carried = refl
role_carried Publishes roles v carried = refl
role_carried (Changes to) roles Published carried = refl
role_carried (Changes to) roles Sealed carried = refl
role_carried (Changes to) roles Running carried = absurd (false≢true carried)

module _ (g : Geometry) (roles : Roles) (r : Record) (j k : Journal) (move : Move) (calls : List DeviceCall) (safe : IsSafe g roles r j)
    (step : Step g roles (present_of r) j move calls k) (v : Version) (carried : is_carried move v ≡ true) where
  abbrev u : Version
  u = moved_from move v

  abbrev home : Image
  home = present_of r

  abbrev now : Image
  now = present_of (with_calls r calls)

  ok : IsGeometry g
  ok = geometry_of_safe g roles r j safe

  size : length now ≡ length home
  size = size_of_present (with_calls r calls) (step_keeps g roles r j k move calls safe step).sectors ∙ sym (size_of_present r safe.sectors)

  -- the roles of what was read are those of the version now
  roles_now : AreRolesOf g (roles u) (reading_in g j home u) → AreRolesOf g (moved move roles v) (reading_in g j home u)
  roles_now are = subst (λ (role : ℕ → Role). AreRolesOf g role (reading_in g j home u)) (sym (role_carried move roles v carried)) are

  agree : AreRolesOf g (roles u) (reading_in g j home u) → AgreeButInFileBytes g (block (content_of g j u home)) (block (content_of g k v now))
  agree are = agree_by_metadata g (moved move roles v) home now (txs_of g j u) (txs_of g k v) size (step_versions g roles r j k move calls v safe step carried) (roles_now are)

  pub reading_stays : AreRolesOf g (roles u) (reading_in g j home u) → reading_in g k now v ≡ reading_in g j home u
  reading_stays are = reading_same g (block (content_of g j u home)) (block (content_of g k v now)) ok (agree are)

  roles_stay : AreRolesOf g (roles u) (reading_in g j home u) → AreRolesOf g (moved move roles v) (reading_in g k now v)
  roles_stay are = subst (AreRolesOf g (moved move roles v)) (sym (reading_stays are)) (roles_now are)

  pub version_stays : (shape : Tree) → IsVersionOf g roles home j u shape → IsVersionOf g (moved move roles) now k v shape
  version_stays shape is =
      let one = block (content_of g j u home) in
      let other = block (content_of g k v now) in
      record {
        content = record { sound = sound_too g one other ok [] (agree is.read) is.content.sound; has = same_shape_of g one other ok (agree is.read) ∙ is.content.has };
        read = roles_stay is.read;
      }

-- the running version, where a step carries it
pub running_stays : (g : Geometry) (roles : Roles) (r : Record) (j k : Journal) (move : Move) (calls : List DeviceCall) (safe : IsSafe g roles r j)
    (step : Step g roles (present_of r) j move calls k) (carried : is_carried move Running ≡ true) (hands : List Hand) (shape : Tree)
    → Sound g (block (content_of g j (moved_from move Running) (present_of r))) hands → shape_of (tree_of g (block (content_of g j (moved_from move Running) (present_of r)))) ≡ shape
    → AreRolesOf g (roles (moved_from move Running)) (reading_in g j (present_of r) (moved_from move Running))
    → IsRunningAs g (moved move roles) (present_of (with_calls r calls)) k hands shape
running_stays g roles r j k move calls safe step carried hands shape sound has are =
    let one = block (content_of g j (moved_from move Running) (present_of r)) in
    let other = block (content_of g k Running (present_of (with_calls r calls))) in
    let ok = geometry_of_safe g roles r j safe in
    let same = agree g roles r j k move calls safe step Running carried are in
    record {
      sound = sound_too g one other ok hands same sound;
      has = same_shape_of g one other ok same ∙ has;
      read = roles_stay g roles r j k move calls safe step Running carried are;
    }
