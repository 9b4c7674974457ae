-- A new volume is sound, and opens: its reading breaks no rule, and its log has no transaction, so what is recovered is
-- the volume itself.
use Rattle.std.proofs.Common.{◌≡◌, ◌<◌, ◌≤◌, ◌*◌, ◌-◌, ◌^◌, ℕ, [], length, Option, Some, None, is_some, refl, sym, ap, subst, ◌∙◌}
use Rattle.std.specs.Prelude.{IsSomeAnd, IfSome, option_map, option_and_then}
use Rattle.std.specs.List.{count_by}
use Rattle.std.proofs.lemmas.Bool.{false≢true}
use Rattle.lufs_base.specs.Layout.{IsGeometry, blocks_of}
use Rattle.lufs_base.specs.declared.geometry.Geometry.{Geometry}
use Rattle.volume_model.specs.declared.finding.Counts.{Counts}
use Rattle.volume_model.specs.declared.finding.Verdict.TheVariants.{Clean}
use Rattle.volume_model.specs.Format.{Image, block, inodes_of, body_blocks_of, geometry_of}
use Rattle.volume_model.specs.Log.{recovered}
use Rattle.volume_model.specs.Sound.{Reading, Unused, used_of, reading_of, claims_of, Sound, finding_of, counts_of, verdict_on, verdict_of, StandsFor, tree_of_reading, tree_of, HasNoLaterIdent, OpensWith, Opens}
use Rattle.volume_model.specs.Texts.{verdict_text, check_text_of, free_blocks}
use Rattle.volume_model.specs.MkfsImage.{IsMkfsImage}
use Rattle.volume_laws.proofs.SoundRules.{no_rule_broken}
use Rattle.volume_laws.proofs.VerdictLaws.{clean_is_sound}
use Rattle.new_volume.specs.NewVolume.{new_tree}
use Rattle.new_volume.proofs.Runs.{count_copies}
use Rattle.new_volume.proofs.NewLog.{new_idents}
use Rattle.new_volume.proofs.NewRecovered.{new_geometry, new_recovered}
use Rattle.new_volume.proofs.NewReading.{new_reading, new_reading_there}
use Rattle.new_volume.proofs.NewClaims.{new_claims}
use Rattle.new_volume.proofs.NewSound.{new_rule_kept, new_tree_read}

-- an image opens that has a geometry, and recovers a sound content without a later ident
opens_by : (g : Geometry) (image content : Image) → geometry_of image ≡ Some g → recovered g image ≡ Some content → Sound g (block content) [] → HasNoLaterIdent g image → Opens image
opens_by g image content names recovers sound idents =
    subst (λ (o : Option Geometry). IsSomeAnd o (λ g. OpensWith g image)) (sym names) record {
      sound = subst (λ (o : Option Image). IsSomeAnd o (λ content. Sound g (block content) [])) (sym recovers) sound;
      idents = idents;
    }

-- what `check` prints of an image that recovers this content
text_by : (g : Geometry) (image content : Image) → geometry_of image ≡ Some g → recovered g image ≡ Some content → check_text_of image ≡ Some (verdict_text (verdict_of g (block content)))
unfolding check_text_of
text_by g image content names recovers =
    ap (λ (o : Option Geometry). option_map verdict_text (option_and_then (λ g. option_map (λ content. verdict_of g (block content)) (recovered g image)) o)) names
    ∙ ap (λ (o : Option Image). option_map verdict_text (option_map (λ content. verdict_of g (block content)) o)) recovers

module _ (g : Geometry) (moment : ℕ) (ok : IsGeometry g) (fits : moment < 2 ^ 64) where
  -- what a check counts: the root, its block, and all other body blocks as free
  abbrev pub new_counts : Counts
  new_counts = record { inodes = 1; blocks = 1; free = free_blocks g }

  counted : new_counts ≡ counts_of g (new_reading g moment)
  unfolding claims_of
  counted =
      let inodes : count_by (λ state. is_some (used_of state)) (new_reading g moment).inodes ≡ 1 = count_copies (λ state. is_some (used_of state)) 1 (inodes_of g - 3) Unused refl in
      let claims : length (claims_of (new_reading g moment)) ≡ 1 = ap length (new_claims g moment ok) in
      let counted_as : ℕ → ℕ → Counts = λ used claimed. record { inodes = used; blocks = claimed; free = body_blocks_of g - claimed } in
      sym (ap (λ (n : ℕ). counted_as n (length (claims_of (new_reading g moment)))) inodes ∙ ap (counted_as 1) claims)

  module _ (old new : Image) (is : IsMkfsImage g moment old new) where
    reads : reading_of g (block new) ≡ new_reading g moment
    reads = new_reading_there g moment ok old new is fits

    no_finding : finding_of g (reading_of g (block new)) [] ≡ None
    no_finding = ap (λ (r : Reading). finding_of g r []) reads ∙ (no_rule_broken g (new_reading g moment) []).1 (new_rule_kept g moment ok)

    clean : verdict_of g (block new) ≡ Clean new_counts
    unfolding verdict_of
    clean = ap (verdict_on g (reading_of g (block new))) no_finding ∙ ap Clean (ap (counts_of g) reads ∙ sym counted)

    new_sound : Sound g (block new) []
    new_sound = ((clean_is_sound g (block new) new_counts).0 clean).0

    pub new_stands : StandsFor g (block new) (new_tree moment) []
    unfolding tree_of
    new_stands = record { sound = new_sound; stands = ap (tree_of_reading (block new)) reads ∙ new_tree_read g moment ok (block new) }

    pub new_opens : 4096 * blocks_of g ≤ length old → Opens new
    new_opens room = opens_by g new new (new_geometry g moment ok old new is room) (new_recovered g moment ok old new is) new_sound (new_idents g moment ok old new is)

    pub new_checks : 4096 * blocks_of g ≤ length old → check_text_of new ≡ Some (verdict_text (Clean new_counts))
    new_checks room = text_by g new new (new_geometry g moment ok old new is room) (new_recovered g moment ok old new is) ∙ ap (λ v. Some (verdict_text v)) clean

  -- so does the content that a disk tells
  pub new_opens_told : (before now : Option Image) → is_some now ≡ is_some before → IfSome before (λ image. 4096 * blocks_of g ≤ length image) → IfSome before (λ old. IfSome now (IsMkfsImage g moment old))
      → IfSome now Opens
  new_opens_told before None told room made = tt
  new_opens_told None (Some new) told room made = absurd (false≢true (sym told))
  new_opens_told (Some old) (Some new) told room made = new_opens old new made room
