-- The running version after a change reads as what the change makes of it before.
use Rattle.std.proofs.Common.{◌≡◌, ◌<◌, ℕ, zero, suc, ◌+◌, ◌*◌, ◌/◌, true, false, List, length, take, slice_index, refl, sym, ap, ◌∙◌, subst, arith}
use Rattle.std.specs.Prelude.{unwrap_or}
use Rattle.std.proofs.lemmas.Bool.{false≢true, false_from_ne_true, and_parts}
use Rattle.lufs_base.specs.Layout.{IsGeometry}
use Rattle.lufs_base.specs.declared.geometry.Geometry.{Geometry}
use Rattle.lufs_base.specs.declared.delta.Delta.{Delta}
use Rattle.volume_model.specs.declared.hand.Hand.{Hand}
use Rattle.volume_model.specs.Format.{Image, block}
use Rattle.volume_model.specs.Crash.{Record, present_of}
use Rattle.volume_model.specs.Sound.{reading_of, metadata_length, AgreeButInFileBytes, Sound, Tree, tree_of, shape_of, is_among}
use Rattle.volume_model.proofs.ReplayLaws.{length-replayed, byte_replayed}
use Rattle.volume_laws.proofs.SameReading.{reading_same}
use Rattle.volume_laws.proofs.SameTree.{same_shape_of, sound_too}
use Rattle.journal_model.specs.Journals.{Journal}
use Rattle.journal_model.specs.Versions.{Running, txs_of, content_of}
use Rattle.journal_model.specs.LaidBlocks.{given_by, is_cancelled_in}
use Rattle.journal_model.specs.BlockRoles.{Role, Roles, Changes, moved, is_metadata, is_claimed}
use Rattle.journal_model.specs.Changes.{Change, MovesRoles, MovesDeltas}
use Rattle.journal_model.specs.Safety.{IsSafe}
use Rattle.journal_laws.proofs.ChangedBytes.{changed_bytes}
use Rattle.journal_laws.proofs.KeptSteps.{geometry_of_safe}
use Rattle.history_laws.specs.Published.{AreRolesOf, reading_in}
use Rattle.history_laws.specs.Volumes.{IsRunningAs}
use Rattle.history_laws.specs.Applied.{IsMadeBy}
use Rattle.history_laws.proofs.SameMetadata.{same_front}

module _ (g : Geometry) (roles : Roles) (r : Record) (j : Journal) (safe : IsSafe g roles r j) (change : Change) (to : ℕ → Role) (running : List Delta) (rolling : MovesRoles g roles j change to)
    (laying : MovesDeltas g roles j change to running) (image : Image) (made : IsMadeBy change.deltas (content_of g j Running (present_of r)) image) where
  same_size : length (content_of g (record j { running = running }) Running (present_of r)) ≡ length image
  same_size =
      length-replayed (present_of r) (txs_of g (record j { running = running }) Running) ∙ sym (length-replayed (present_of r) (txs_of g j Running)) ∙ sym made.size

  -- a byte of a block that isn't cancelled
  same_byte : (address : ℕ) → is_cancelled_in change.deltas (address / 4096) ≡ false → address < length image
      → slice_index (content_of g (record j { running = running }) Running (present_of r)) address ≡ slice_index image address
  same_byte address kept there =
      byte_replayed (present_of r) (txs_of g (record j { running = running }) Running) address (omega (arith, there, same_size, length-replayed (present_of r) (txs_of g (record j { running = running }) Running)))
      ∙ changed_bytes g roles r j change to running safe laying (present_of r) address kept
      ∙ ap (unwrap_or (given_by change.deltas address))
      (sym (byte_replayed (present_of r) (txs_of g j Running) address (omega (arith, there, made.size, length-replayed (present_of r) (txs_of g j Running)))))
      ∙ sym (made.bytes address kept)

  -- a block that is claimed after the change isn't cancelled
  not_cancelled : (b : ℕ) → is_claimed (to b) ≡ true → is_cancelled_in change.deltas b ≡ false
  not_cancelled b claimed =
      false_from_ne_true (is_cancelled_in change.deltas b) (λ cancelled.
      let freed : is_among b change.freed ≡ true = (and_parts (is_among b change.freed) (is_metadata (roles Running b)) (sym (laying.cancels b) ∙ cancelled)).0 in
      false≢true (sym (rolling.freed b freed).1 ∙ claimed))

  pub same_front_of : (b m : ℕ) → is_claimed (to b) ≡ true → take m (block (content_of g (record j { running = running }) Running (present_of r)) b) ≡ take m (block image b)
  same_front_of b m claimed =
      same_front image (content_of g (record j { running = running }) Running (present_of r)) b m same_size (λ i low inside there.
      let at : b ≡ (4096 * b + i) / 4096 = omega (arith, inside) in
      same_byte (4096 * b + i) (subst (λ (c : ℕ). is_cancelled_in change.deltas c ≡ false) at (not_cancelled b claimed)) there)

  module _ (hands : List Hand) (shape : Tree) (sound : Sound g (block image) hands) (has : shape_of (tree_of g (block image)) ≡ shape) (are : AreRolesOf g to (reading_of g (block image))) where
    agree : AgreeButInFileBytes g (block image) (block (content_of g (record j { running = running }) Running (present_of r)))
    agree b = by_length (metadata_length g (reading_of g (block image)) b) refl
      where
        by_length : (m : ℕ) → metadata_length g (reading_of g (block image)) b ≡ m → take m (block (content_of g (record j { running = running }) Running (present_of r)) b) ≡ take m (block image b)
        by_length zero is = refl
        by_length (suc m) is = same_front_of b (suc m) (ap is_claimed (are.metadata b (omega (arith, is))).1)

    ok : IsGeometry g
    ok = geometry_of_safe g roles r j safe

    pub changed_reading : reading_in g (record j { running = running }) (present_of r) Running ≡ reading_of g (block image)
    changed_reading = reading_same g (block image) (block (content_of g (record j { running = running }) Running (present_of r))) ok agree

    pub changed_running : IsRunningAs g (moved (Changes to) roles) (present_of r) (record j { running = running }) hands shape
    changed_running =
        let other = block (content_of g (record j { running = running }) Running (present_of r)) in
        record {
          sound = sound_too g (block image) other ok hands agree sound;
          has = same_shape_of g (block image) other ok agree ∙ has;
          read = subst (AreRolesOf g to) (sym changed_reading) are;
        }
