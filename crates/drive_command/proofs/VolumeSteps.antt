-- What the steps of reading a volume say of the image on its disk.
use Rattle.std.proofs.Common.{◌≡◌, ◌<◌, ℕ, List, [], Option, Some, None, Result, Ok, Err, sym, ◌∙◌, ap, subst, arith}
use Rattle.std.specs.Prelude.{IfSome, IfOk, IsSomeAnd, option_map, option_and_then}
use Rattle.lufs_base.specs.declared.geometry.Geometry.{Geometry}
use Rattle.volume_model.specs.declared.finding.Verdict.{Verdict}
use Rattle.volume_model.specs.declared.finding.Verdict.TheVariants.{Finding}
use Rattle.volume_model.specs.declared.log.Header.{Header}
use Rattle.volume_model.specs.declared.log.Tx.{Tx}
use Rattle.volume_model.specs.Format.{Image, block, geometry_of}
use Rattle.volume_model.specs.Log.{Log, WithHeader, Transactions, Listed, log_of, recovered, recovered_by, replayed}
use Rattle.volume_model.specs.Sound.{StandsFor, verdict_of}
use Rattle.volume_model.specs.Texts.{verdict_of_image}
use Rattle.sector_disk.specs.Disk.{DiskTold, NoneFailed, IsUnwritten}
use Rattle.log_scan.specs.Answers.{IsScan}
use Rattle.log_scan.specs.Ring.{transactions_of}
use Rattle.log_scan.specs.declared.log.ScanError.{ScanError}
use Rattle.log_scan.specs.declared.log.ScanError.TheVariants as scans
use Rattle.meta_store.specs.declared.error.StoreError.{StoreError}
use Rattle.meta_store.specs.declared.error.StoreError.TheVariants as stores
use Rattle.meta_store.specs.declared.laid.LaidDeltas.{LaidDeltas}
use Rattle.meta_store.specs.Laid.{laid_over}
use Rattle.meta_store.specs.Index.{deltas_of, IsIndexOf}
use Rattle.meta_store.proofs.LogLaid.{replay_laid, log_within}
use Rattle.plain_image.specs.HomeBlocks.{HaveSameHomes}
use Rattle.drive_command.specs.declared.mount.MountError.{MountError}
use Rattle.drive_command.specs.declared.mount.MountError.TheVariants as refusals
use Rattle.drive_command.specs.Volume.{last_epoch, IsRefusalOf, IsHeaderRead, IsLogRead, HasBlocksOf, IsUnsound, IsMountOf, opening_of, unlisted, stopped}

-- what follows from what holds of the content
pub if_then : {X : Type 0} (P Q : X → Type 0) (o : Option X) → ((x : X) → P x → Q x) → IfSome o P → IfSome o Q
if_then P Q None step p = tt
if_then P Q (Some x) step p = step x p

-- what follows from two things that hold of the content
pub if_both : {X : Type 0} (P Q R : X → Type 0) (now old : Option X) → now ≡ old → ((x : X) → P x → Q x → R x) → IfSome old P → IfSome now Q → IfSome old R
if_both P Q R None None same step p q = tt
if_both P Q R (Some y) None same step p q = tt
if_both P Q R None (Some x) same step p q = absurd (cc (same))
if_both P Q R (Some y) (Some x) same step p q = let at : y ≡ x = cc (same) in step x p (rw at at q)

-- no call failed in two stretches, one after the other
pub none_twice : (a b c : DiskTold) → NoneFailed a b → NoneFailed b c → NoneFailed a c
none_twice a b c first second = record {
  failures = second.failures ∙ first.failures;
  failed_at = second.failed_at ∙ first.failed_at;
  faults = omega (arith, first.faults, second.faults);
}

-- nothing was written in two stretches, one after the other
pub unwritten_twice : (a b c : DiskTold) → IsUnwritten a b → IsUnwritten b c → IsUnwritten a c
unwritten_twice a b c first second = record {
  sectors = second.sectors ∙ first.sectors;
  content = second.content ∙ first.content;
  listed = second.listed ∙ first.listed;
  calls = second.calls ∙ first.calls;
}

-- the volume is refused by its header
pub header_refused : (g : Geometry) (image : Image) (why : MountError) → IsHeaderRead g image (Err why) → IsLogRead g image (Err why)
header_refused g image refusals.NotVolume is = absurd is
header_refused g image refusals.BadHeader is = λ geometry. (g, geometry, is)
header_refused g image refusals.EpochSpent is = λ geometry. (g, is.0, transactions_of g is.0 image, record { geometry = geometry; log = is.1 }, is.2)
header_refused g image (refusals.BadLog tid place) is = absurd is
header_refused g image (refusals.Unsound kind number) is = absurd is
header_refused g image refusals.Disk is = λ geometry. tt
header_refused g image refusals.Mem is = absurd is

-- a log has one header
one_header : (h k : Header) (txs others : Transactions) (log : Log) → log ≡ WithHeader h txs → log ≡ WithHeader k others → k ≡ h
one_header h k txs others log first second = cc (first, second)

-- the transactions that were read are those of the header that was read
pub log_read : (g : Geometry) (image : Image) (h k : Header) (txs : List Tx) → IsHeaderRead g image (Ok h) → IsScan (log_of g image) (Ok (k, txs)) → IsLogRead g image (Ok (h, txs))
log_read g image h k txs header scan = subst (λ (x : Header). log_of g image ≡ WithHeader x (Listed txs)) (one_header h k _ _ (log_of g image) header scan) scan

-- the volume is refused by its log
pub log_refused : (g : Geometry) (image : Image) (h : Header) (error : ScanError) → h.epoch < last_epoch → IsHeaderRead g image (Ok h) → IsScan (log_of g image) (Err error)
    → IsLogRead g image (Err (unlisted error))
log_refused g image h scans.Disk early header scan = λ geometry. tt
log_refused g image h scans.BadHeader early header scan = λ geometry. (g, geometry, scan)
log_refused g image h (scans.BadLog tid place) early header scan = λ geometry.
    let same : scan.0 ≡ h = one_header h scan.0 _ _ (log_of g image) header scan.1 in
    (g, scan.0, record { geometry = geometry; log = scan.1 }, λ spent. let epoch : scan.0.epoch ≡ h.epoch = ap (λ (x : Header). x.epoch) same in omega (arith, early, spent, epoch))
log_refused g image h scans.Mem early header scan = λ geometry. tt

-- what was read of a disk with its log laid over it is the content of the image with the log replayed
pub content_read : {T : Type 0} (items : T → List ℕ) (g : Geometry) (present : Option Image) (txs : List Tx) (laid : LaidDeltas) (read : Result T StoreError) → IsIndexOf txs laid
    → IfOk read (λ content. IfSome (option_map (laid_over (deltas_of laid)) present) (HasBlocksOf g (items content)))
    → IfSome present (λ image. (h : Header) → log_of g image ≡ WithHeader h (Listed txs) → IfOk read (λ content. HasBlocksOf g (items content) (replayed image txs)))
content_read items g None txs laid read index is = tt
content_read items g (Some image) txs laid (Ok content) index is = λ h log.
    let same = replay_laid image txs (deltas_of laid) index (log_within g image h txs log) in
    subst (λ (there : Image). HasBlocksOf g (items content) there) (sym same) is
content_read items g (Some image) txs laid (Err error) index is = λ h log. tt

-- a log that was read is replayed
pub replayed_is_recovered : (g : Geometry) (image : Image) (h : Header) (txs : List Tx) → log_of g image ≡ WithHeader h (Listed txs) → recovered g image ≡ Some (replayed image txs)
replayed_is_recovered g image h txs log = ap (recovered_by image) log

pub same_homes_as : (g : Geometry) (content there : Image) → HasBlocksOf g content there → HaveSameHomes g (block content) (block there)
same_homes_as g content there same = λ b home. sym (same b home.high)

-- the image of a volume that was read, and stands for the tree that its content in memory does
pub mount_of : (g : Geometry) (h : Header) (content image : Image) (txs : List Tx) → geometry_of image ≡ Some g → log_of g image ≡ WithHeader h (Listed txs)
    → StandsFor g (block (replayed image txs)) (opening_of g content) [] → IsMountOf g h content image
mount_of g h content image txs geometry log stands = record {
  txs = txs;
  log = record { geometry = geometry; log = log };
  stands = subst (λ (o : Option Image). IsSomeAnd o (λ there. StandsFor g (block there) (opening_of g content) [])) (sym (replayed_is_recovered g image h txs log)) stands;
}

-- the verdict on the content with the log replayed is that on the image
verdict_found : (image : Image) (g : Geometry) (h : Header) (txs : List Tx) (verdict : Verdict) → geometry_of image ≡ Some g → log_of g image ≡ WithHeader h (Listed txs)
    → verdict_of g (block (replayed image txs)) ≡ verdict → verdict_of_image image ≡ Some verdict
verdict_found image g h txs verdict geometry log is =
    ap (option_and_then (λ (k : Geometry). option_map (λ (content : Image). verdict_of k (block content)) (recovered k image))) geometry
    ∙ ap (option_map (λ (content : Image). verdict_of g (block content))) (replayed_is_recovered g image h txs log)
    ∙ ap (λ (v : Verdict). Some v) is

-- the volume is refused by the content that was read of it
pub content_refused : (image : Image) (g : Geometry) (h : Header) (txs : List Tx) (content : Image) (why : MountError) → h.epoch < last_epoch
    → geometry_of image ≡ Some g → log_of g image ≡ WithHeader h (Listed txs) → verdict_of g (block (replayed image txs)) ≡ verdict_of g (block content)
    → IsUnsound g content why → IsRefusalOf image why
content_refused image g h txs content refusals.NotVolume early geometry log same is = absurd is
content_refused image g h txs content refusals.BadHeader early geometry log same is = absurd is
content_refused image g h txs content refusals.EpochSpent early geometry log same is = absurd is
content_refused image g h txs content (refusals.BadLog tid place) early geometry log same is = absurd is
content_refused image g h txs content (refusals.Unsound kind number) early geometry log same is =
    (g, h, txs, record { geometry = geometry; log = log }, λ spent. omega (arith, early, spent), verdict_found image g h txs (Finding kind number) geometry log (same ∙ is))
content_refused image g h txs content refusals.Disk early geometry log same is = absurd is
content_refused image g h txs content refusals.Mem early geometry log same is = tt

-- what is unsound is no fault of the disk
pub unsound_is_no_fault : (g : Geometry) (content : Image) (why : MountError) → IsUnsound g content why → ¬ (why ≡ refusals.Disk)
unsound_is_no_fault g content why is fault = subst (λ (x : MountError). IsUnsound g content x) fault is

-- a read that stopped says nothing of the image
pub stop_says_nothing : (present : Option Image) (error : StoreError) → IfSome present (λ image. IsRefusalOf image (stopped error))
stop_says_nothing None error = tt
stop_says_nothing (Some image) stores.Disk = tt
stop_says_nothing (Some image) stores.Mem = tt

-- what is known of the image once its content was read
pub record IsKnown (g : Geometry) (h : Header) (txs : List Tx) (content image : Image) : Type 0 where
  pub geometry : geometry_of image ≡ Some g
  pub log : log_of g image ≡ WithHeader h (Listed txs)
  pub blocks : HasBlocksOf g content (replayed image txs)

pub known : (g : Geometry) (h : Header) (txs : List Tx) (content : Image) (first second third : Option Image) → second ≡ first → third ≡ second
    → IfSome first (λ image. geometry_of image ≡ Some g) → IfSome second (λ image. log_of g image ≡ WithHeader h (Listed txs))
    → IfSome third (λ image. (k : Header) → log_of g image ≡ WithHeader k (Listed txs) → HasBlocksOf g content (replayed image txs)) → IfSome first (IsKnown g h txs content)
known g h txs content first second third same again geometry log blocks =
    if_both (λ (i : Image). (geometry_of i ≡ Some g) × (log_of g i ≡ WithHeader h (Listed txs))) (λ (i : Image). (k : Header) → log_of g i ≡ WithHeader k (Listed txs) → HasBlocksOf g content (replayed i txs))
    (IsKnown g h txs content) third first (again ∙ same) (λ i read is. record { geometry = read.0; log = read.1; blocks = is h read.1 })
    (if_both (λ (i : Image). geometry_of i ≡ Some g) (λ (i : Image). log_of g i ≡ WithHeader h (Listed txs)) (λ (i : Image). (geometry_of i ≡ Some g) × (log_of g i ≡ WithHeader h (Listed txs)))
    second first same (λ i a b. (a, b)) geometry log) blocks
