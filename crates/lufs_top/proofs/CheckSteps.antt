-- How a check that stopped ends, and what its parts say of the image.
use Rattle.std.proofs.Common.{◌≡◌, ℕ, List, Option, Some, None, Result, Ok, Err, refl, sym, ◌∙◌, ap, subst}
use Rattle.std.specs.Prelude.{IsErrOf, IfSome, IfOk, IsOkAnd, MatchResult, option_and_then, option_map}
use Rattle.lufs_base.specs.declared.geometry.Geometry.{Geometry}
use Rattle.volume_model.specs.declared.finding.Verdict.{Verdict}
use Rattle.volume_model.specs.declared.log.Header.{Header}
use Rattle.volume_model.specs.declared.log.Tx.{Tx}
use Rattle.volume_model.specs.Format.{Image, block, geometry_of}
use Rattle.volume_model.specs.Log.{WithHeader, Listed, log_of, recovered, recovered_by, replayed}
use Rattle.volume_model.specs.Sound.{verdict_of}
use Rattle.volume_model.specs.Texts.{verdict_of_image}
use Rattle.sector_disk.specs.Disk.{DiskTold, FailsJustAt}
use Rattle.log_scan.specs.Answers.{IsScan}
use Rattle.log_scan.specs.declared.log.ScanError.{ScanError}
use Rattle.log_scan.specs.declared.log.ScanError.TheVariants as scans
use Rattle.meta_store.specs.declared.error.StoreError.{StoreError}
use Rattle.meta_store.specs.declared.error.StoreError.TheVariants as stores
use Rattle.meta_store.specs.declared.laid.LaidDeltas.{LaidDeltas}
use Rattle.meta_store.specs.Laid.{laid_over}
use Rattle.meta_store.specs.Index.{deltas_of, IsIndexOf, replayed_told}
use Rattle.meta_store.proofs.LogLaid.{replay_laid, log_within}
use Rattle.fsck_core.specs.Answers.{IsVerdict, IsVerdictOf}
use Rattle.lufs_top.specs.declared.check.CheckEnding.{CheckEnding}
use Rattle.lufs_top.specs.declared.check.CheckEnding.TheVariants.{Checked}
use Rattle.lufs_top.specs.declared.ending.Ending.{Ending}
use Rattle.lufs_top.specs.declared.ending.Ending.TheVariants.{DiskFault, NoMemory}
use Rattle.lufs_top.specs.Check.{IsCheckOf, IsStopped, IsCheckEnding, IsVerdictAfter, ended_by}
use Rattle.lufs_top.specs.Ending.{IsDiskFault}
use Rattle.lufs_top.proofs.CommandSteps.{none_fails, last_fails}

pub check_stopped : (error : StoreError) (volume : List ℕ) (ending : Ending) (before now : DiskTold) → IsStopped error volume ending
    → FailsJustAt (IsErrOf {T = CheckEnding} (Err error) stores.Disk) before now → FailsJustAt (IsDiskFault ending) before now × IsCheckEnding volume before ending
check_stopped stores.Disk volume (DiskFault at) before now is fails = (last_fails fails refl tt, is)
check_stopped stores.Mem volume NoMemory before now is fails = (none_fails fails (λ p. cc) (λ q. q), tt)
check_stopped error volume ending before now is fails = absurd is

-- what a check's error says of the log is true of the image
pub error_found : (error : ScanError) (image : Image) (g : Geometry) → geometry_of image ≡ Some g → IsScan (log_of g image) (Err error) → IfOk (ended_by error) (IsCheckOf image)
error_found scans.Disk image g geometry log = tt
error_found scans.BadHeader image g geometry log = (g, geometry, log)
error_found (scans.BadLog tid place) image g geometry log = (g, log.0, geometry, log.1)
error_found scans.Mem image g geometry log = tt

-- a log that was read is replayed
pub replayed_is_recovered : (g : Geometry) (image : Image) (h : Header) (txs : List Tx) → log_of g image ≡ WithHeader h (Listed txs) → recovered g image ≡ Some (replayed image txs)
replayed_is_recovered g image h txs log = ap (recovered_by image) log

-- the verdict on the content with the log replayed is that on the image
pub verdict_found : (image : Image) (g : Geometry) (h : Header) (txs : List Tx) (verdict : Verdict) → geometry_of image ≡ Some g → log_of g image ≡ WithHeader h (Listed txs)
    → verdict ≡ verdict_of g (block (replayed image txs)) → verdict_of_image image ≡ Some verdict
verdict_found image g h txs verdict geometry log is =
    ap (option_and_then (λ (k : Geometry). option_map (λ (content : Image). verdict_of k (block content)) (recovered k image))) geometry
    ∙ ap (option_map (λ (content : Image). verdict_of g (block content))) (replayed_is_recovered g image h txs log)
    ∙ ap (λ (v : Verdict). Some v) (sym is)

verdict_ok : (g : Geometry) (content : Image) (result : Result Verdict StoreError) → IsVerdict g (block content) result → IfOk result (λ verdict. verdict ≡ verdict_of g (block content))
verdict_ok g content (Ok verdict) is = is
verdict_ok g content (Err error) is = tt

-- the verdict on what a store tells of a disk that has its log laid over it is that on the replayed image
pub verdict_after : (g : Geometry) (disk : DiskTold) (txs : List Tx) (laid : LaidDeltas) (result : Result Verdict StoreError) → IsIndexOf txs laid → IsVerdictOf (replayed_told g laid disk) result
    → IfSome disk.present (λ image. IsVerdictAfter g txs image result)
verdict_after g disk txs laid result index is = of_present disk.present is
  where
    of_present : (present : Option Image) → IfSome (option_map (laid_over (deltas_of laid)) present) (λ content. IsVerdict g (block content) result) → IfSome present (λ image. IsVerdictAfter g txs image result)
    of_present None is = tt
    of_present (Some image) is = λ h log.
        let same = replay_laid image txs (deltas_of laid) index (log_within g image h txs log) in
        verdict_ok g (replayed image txs) result (subst (λ (content : Image). IsVerdict g (block content) result) (sym same) is)

-- what was found where the volume was checked
pub checked_of : (image : Image) (g : Geometry) (h : Header) (txs : List Tx) (answer : Result Verdict StoreError) (result : Result CheckEnding StoreError) → geometry_of image ≡ Some g
    → log_of g image ≡ WithHeader h (Listed txs) → IsVerdictAfter g txs image answer → MatchResult answer (λ verdict. IsOkAnd result (λ found. found ≡ Checked verdict)) (λ error. result ≡ Err error)
    → IfOk result (IsCheckOf image)
checked_of image g h txs (Ok verdict) (Ok found) geometry log is made = subst (IsCheckOf image) (sym made) (verdict_found image g h txs verdict geometry log (is h log))
checked_of image g h txs answer (Err error) geometry log is made = tt
checked_of image g h txs (Err error) (Ok found) geometry log is made = absurd (cc (made))
