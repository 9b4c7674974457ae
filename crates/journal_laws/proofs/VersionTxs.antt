-- The transactions of a version after a batch: they lie in their blocks, and lay bytes over no more than all of them do.
use Rattle.std.proofs.Common.{◌≡◌, ℕ, false, List, take, sym, ap, ◌∙◌, subst}
use Rattle.std.proofs.lemmas.Bool.{false_from_ne_true, both_ways}
use Rattle.lufs_base.specs.declared.geometry.Geometry.{Geometry}
use Rattle.volume_model.specs.declared.log.Tx.{Tx}
use Rattle.volume_model.specs.Crash.{Record}
use Rattle.volume_model.specs.Log.{AreLoggable}
use Rattle.journal_model.specs.Journals.{Journal}
use Rattle.journal_model.specs.Versions.{Version, txs_after, txs_of}
use Rattle.journal_model.specs.LaidBlocks.{is_laid_by}
use Rattle.journal_model.specs.BlockRoles.{Roles}
use Rattle.journal_model.specs.Safety.{IsSafe}
use Rattle.journal_laws.proofs.Replays.{LieInBlocks, each_right, laid_later}
use Rattle.journal_laws.proofs.RollFacts.{AllLoggable, all_lie, parts_of, version_loggable}

pub rest_lies : (g : Geometry) (roles : Roles) (r : Record) (j : Journal) → IsSafe g roles r j → (n : ℕ) (v : Version) → LieInBlocks (txs_after g j n v)
rest_lies g roles r j safe n v =
    all_lie g (txs_after g j n v) (each_right (λ (tx : Tx). AreLoggable g tx.deltas) (take n j.committed) (txs_after g j n v)
    (subst (AllLoggable g) (sym (parts_of g j n v)) (version_loggable g roles r j safe v)))

pub not_laid_by_rest : (g : Geometry) (j : Journal) (n : ℕ) (v : Version) (b : ℕ) → is_laid_by (txs_of g j v) b ≡ false → is_laid_by (txs_after g j n v) b ≡ false
not_laid_by_rest g j n v b none =
    false_from_ne_true (is_laid_by (txs_after g j n v) b) (λ laid.
    both_ways (is_laid_by (txs_of g j v) b) none
    (ap (λ (l : List Tx). is_laid_by l b) (sym (parts_of g j n v)) ∙ laid_later (take n j.committed) (txs_after g j n v) b laid))
