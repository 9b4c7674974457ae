-- A block that may be given out: no version claims it, no batch holds it, and no version lays bytes over it.
use Rattle.std.proofs.Common.{◌≡◌, ℕ, true, false, not, refl, sym, ap, ◌∙◌}
use Rattle.std.proofs.lemmas.Bool.{and_parts, not-true, false_from_ne_true, false≢true}
use Rattle.lufs_base.specs.declared.geometry.Geometry.{Geometry}
use Rattle.volume_model.specs.Crash.{Record}
use Rattle.journal_model.specs.Journals.{Owner, Live, Released, Freed, Journal}
use Rattle.journal_model.specs.Versions.{Version, Running, txs_of}
use Rattle.journal_model.specs.LaidBlocks.{is_laid_by}
use Rattle.journal_model.specs.BlockRoles.{Roles, is_claimed}
use Rattle.journal_model.specs.Batches.{is_held, is_released_owner, is_freed_owner, is_released}
use Rattle.journal_model.specs.Kept.{IsGone}
use Rattle.journal_model.specs.Safety.{IsSafe}
use Rattle.journal_laws.proofs.RollKept.{metadata_is_claimed}

released_is_not_freed : (owner : Owner) → is_released_owner owner ≡ true → is_freed_owner owner ≡ false
released_is_not_freed Live is = refl
released_is_not_freed Released is = refl
released_is_not_freed (Freed tid) is = absurd (false≢true is)

module _ (g : Geometry) (roles : Roles) (r : Record) (j : Journal) (safe : IsSafe g roles r j) where
  unclaimed_is_not_laid : (b : ℕ) (v : Version) → is_claimed (roles v b) ≡ false → is_laid_by (txs_of g j v) b ≡ false
  unclaimed_is_not_laid b v none =
      false_from_ne_true (is_laid_by (txs_of g j v) b) (λ laid. false≢true (sym none ∙ metadata_is_claimed (roles v b) (safe.versions.laid v b laid)))

  pub may_be_given_out : (b : ℕ) → is_released j b ≡ true → IsGone g roles j b × (is_held j b ≡ false) × ((v : Version) → is_laid_by (txs_of g j v) b ≡ false)
  may_be_given_out b released =
      let parts = and_parts (is_released_owner (j.owners b)) (not (is_held j b)) released in
      let unclaimed : is_claimed (roles Running b) ≡ false =
      false_from_ne_true (is_claimed (roles Running b)) (λ claimed. false≢true (sym (ap is_released_owner (safe.owners.claimed b claimed)) ∙ parts.0)) in
      let gone = safe.owners.gone b unclaimed (released_is_not_freed (j.owners b) parts.0) in
      (gone, not-true (is_held j b) parts.1, λ v. unclaimed_is_not_laid b v (gone.unclaimed v))
