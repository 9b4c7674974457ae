-- What was found of a volume, where the disk tells its content.
use Rattle.std.proofs.Common.{◌≡◌, List, Option, Some, None, Err, ◌∙◌, ap}
use Rattle.std.specs.Prelude.{IfSome, IfOk, option_and_then}
use Rattle.lufs_base.specs.declared.geometry.Geometry.{Geometry}
use Rattle.volume_model.specs.Format.{Image, geometry_of}
use Rattle.volume_model.specs.declared.log.Header.{Header}
use Rattle.volume_model.specs.declared.log.Tx.{Tx}
use Rattle.volume_model.specs.Texts.{scan_text, text_of_log, scan_text_of}
use Rattle.volume_model.specs.Log.{WithHeader, Listed, log_of}
use Rattle.log_scan.specs.Answers.{IsScan}
use Rattle.log_scan.specs.declared.log.ScanError.{ScanError}
use Rattle.log_scan.specs.declared.log.ScanError.TheVariants as scans
use Rattle.lufs_top.specs.Scan.{IsScanOf, ended_by}

-- what holds of the content follows from two things that hold of it
pub if_both : {X : Type 0} (P Q R : X → Type 0) (now old : Option X) → now ≡ old → ((x : X) → P x → Q x → R x) → IfSome old P → IfSome now Q → IfSome old R
if_both P Q R None None same step p q = tt
if_both P Q R (Some y) None same step p q = tt
if_both P Q R None (Some x) same step p q = absurd (cc (same))
if_both P Q R (Some y) (Some x) same step p q = let at : y ≡ x = cc (same) in step x p (rw at at q)

-- the text of a log that was read is that of the image
pub listing : (image : Image) (g : Geometry) (h : Header) (txs : List Tx) → geometry_of image ≡ Some g → log_of g image ≡ WithHeader h (Listed txs) → scan_text_of image ≡ Some (scan_text g h txs)
unfolding scan_text_of
listing image g h txs geometry read =
    ap (option_and_then (λ (k : Geometry). text_of_log k (log_of k image))) geometry ∙ ap (text_of_log g) read

-- what holds of any content
pub if_any : {X : Type 0} {P : Type 0} (o : Option X) → P → IfSome o (λ _. P)
if_any None p = tt
if_any (Some x) p = p

-- what a scan's error says of the log is true of the image
pub error_found : (error : ScanError) (image : Image) (g : Geometry) → geometry_of image ≡ Some g → IsScan (log_of g image) (Err error) → IfOk (ended_by error) (IsScanOf image)
error_found scans.Disk image g geometry log = tt
error_found scans.BadHeader image g geometry log = (g, geometry, log)
error_found (scans.BadLog tid place) image g geometry log = (g, log.0, geometry, log.1)
error_found scans.Mem image g geometry log = tt
