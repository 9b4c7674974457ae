-- The blocks of the files of a volume are whole.
use Rattle.std.proofs.Common.{◌≡◌, ◌<◌, ◌≤◌, ℕ, ◌*◌, true, List, [], length, take, drop, Option, Some, None, refl, sym, ap, ◌∙◌, subst, arith}
use Rattle.std.specs.Prelude.{option_map, IfSome}
use Rattle.std.proofs.lemmas.Bool.{and_parts, ltb-true}
use Rattle.std.proofs.lemmas.List.{length-take, length-drop}
use Rattle.lufs_base.specs.Layout.{blocks_of}
use Rattle.lufs_base.specs.declared.geometry.Geometry.{Geometry}
use Rattle.volume_model.specs.declared.hand.Hand.{Hand}
use Rattle.volume_model.specs.Format.{Image, block, is_body}
use Rattle.volume_model.specs.Log.{replayed}
use Rattle.volume_model.specs.Crash.{Record, present_of}
use Rattle.volume_model.specs.Sound.{reading_of, File, Tree, tree_of, StandsFor}
use Rattle.volume_model.proofs.ReplayLaws.{length-replayed}
use Rattle.volume_laws.proofs.LaidClaims.{body_of_claim, sound_is_laid}
use Rattle.journal_model.specs.Mount.{Found}
use Rattle.journal_laws.proofs.Outcomes.{blocks_fit}
use Rattle.history_laws.specs.Named.{named_block}
use Rattle.history_laws.specs.Sessions.{MayBeMounted, Session, Opens, Steps}
use Rattle.history_laws.specs.Volumes.{Volume}
use Rattle.history_laws.specs.WholeFiles.{HasWholeFiles}
use Rattle.history_laws.proofs.NamedBlocks.{block_read}
use Rattle.history_laws.proofs.NamedOnce.{claims_named}

module _ (g : Geometry) (content : Image) (tree : Tree) (hands : List Hand) (room : 4096 * blocks_of g ≤ length content) (stands : StandsFor g (block content) tree hands) where
  named_below : (ino index b : ℕ) → named_block (reading_of g (block content)) ino index ≡ Some b → b < blocks_of g
  named_below ino index b names =
      let named = claims_named (reading_of g (block content)) ino index b names in
      let body : is_body g b ≡ true =
      ap (is_body g) (sym named.block) ∙ body_of_claim g (reading_of g (block content)) (sound_is_laid g (block content) hands stands.sound) named.claim named.among in
      ltb-true b (blocks_of g) (and_parts _ _ body).0

  whole_named : (ino index : ℕ) (o : Option ℕ) → named_block (reading_of g (block content)) ino index ≡ o → IfSome (option_map (λ b. take 4096 (block content b)) o) (λ bytes. length bytes ≡ 4096)
  whole_named ino index None names = tt
  whole_named ino index (Some b) names =
      let below = named_below ino index b names in
      omega (arith, below, room, length-take 4096 (block content b), length-take 4096 (drop (512 * (8 * b)) content), length-drop (512 * (8 * b)) content)

  pub whole_volume : HasWholeFiles tree
  whole_volume ino file is index =
      let here : tree_of g (block content) ino ≡ Some (File file) = ap (λ (t : Tree). t ino) stands.stands ∙ is in
      subst (λ (o : Option (List ℕ)). IfSome o (λ bytes. length bytes ≡ 4096)) (sym (block_read g (block content) ino index file here))
      (whole_named ino index (named_block (reading_of g (block content)) ino index) refl)

pub whole_mounted : (g : Geometry) (found : Found) (start : Record) (opening : Tree) → MayBeMounted g found start opening → HasWholeFiles opening
whole_mounted g found start opening may =
    whole_volume g (replayed (present_of start) found.txs) opening [] (omega (arith, length-replayed (present_of start) found.txs, blocks_fit g (present_of start) may.log.geometry)) may.tree

pub whole_session : (g : Geometry) (moment : ℕ) (opening : Tree) (start : Record) (v : Volume) → Session g moment opening start v → HasWholeFiles opening
whole_session g moment opening start _ (Opens found role owners r may mounts begins are) = whole_mounted g found start opening may
whole_session g moment opening start _ (Steps v w session step) = whole_session g moment opening start v session
