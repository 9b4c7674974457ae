-- What a check knows of a store while it reads the inodes of one group after the other.
use Rattle.std.proofs.Common.{◌≡◌, ◌<◌, ◌+◌, ◌*◌, ℕ, List, [], length, Option, None, Some, Result, Ok, Err, IfSome, sym, ap, subst, ◌∙◌, arith}
use Rattle.std.specs.Prelude.{IsErrAnd, IsErrOf}
use Rattle.volume_model.specs.declared.finding.Kind.TheVariants.{Group as of_groups}
use Rattle.volume_model.specs.Format.{Image, Blocks, block}
use Rattle.volume_model.specs.Sound.{reading_of, first_of_kind}
use Rattle.lufs_base.specs.Layout.{group_start}
use Rattle.lufs_base.specs.declared.geometry.Geometry.{Geometry}
use Rattle.sector_disk.specs.Disk.{DiskTold, failed_again, NoneFailed, FailsJustAt}
use Rattle.meta_store.specs.Store.{StoreTold, AreBlocksRead, IsUnchanged}
use Rattle.fsck_core.specs.declared.inodes.Inodes.{Inodes}
use Rattle.fsck_core.specs.declared.stop.Stop.{Stop}
use Rattle.fsck_core.specs.Answers.{IsPart}
use Rattle.fsck_core.specs.Inodes.{AreKept}
use Rattle.fsck_core.specs.Tables.{AreOfGroup}
use Rattle.sector_disk.proofs.MadeCalls.{none_then}
use Rattle.fsck_core.proofs.LookSteps.{both}
use Rattle.fsck_core.proofs.SurveyLoop.{carried_back, part_stopped}

-- no group breaks a rule
abbrev pub NoBadGroup : Geometry → Image → Type 0
NoBadGroup g image = first_of_kind g (reading_of g (block image)) [] of_groups ≡ None

-- the inodes of the groups before group n are kept
abbrev pub AreKeptTo : ℕ → Inodes → Geometry → Image → Type 0
AreKeptTo n k g image = AreKept g (block image) (n * g.ipg) k.briefs.items k.unsettled.items k.claims

-- reading group n keeps its inodes too, or finds what the check finds
abbrev pub Reads : ℕ → (before after : Inodes) → Result (Unit {0}) Stop → Geometry → Image → Type 0
Reads n before after result g image = NoBadGroup g image → AreKeptTo n before g image → IsPart g (block image) (λ _. AreKeptTo (n + 1) after g image) result

-- the row of blocks that was read is that of the group
pub table_told : (told : StoreTold) (h : Geometry) (n first : ℕ) (table : List ℕ) (before after : Inodes) (result : Result (Unit {0}) Stop) → h ≡ told.geometry
    → first ≡ group_start h n + 1 → AreBlocksRead first table told → ((image : Image) → AreOfGroup h (block image) n table → Reads n before after result h image)
    → IfSome told.content (Reads n before after result told.geometry)
table_told told h n first table before after result geometry place read keeps =
    subst (λ (g : Geometry). IfSome told.content (Reads n before after result g)) geometry (by_content told.content read)
  where
    by_content : (content : Option Image) → IfSome content (λ image. (k : ℕ) → 4096 * k < length table → block table k ≡ block image (first + k)) → IfSome content (Reads n before after result h)
    by_content None read = tt
    by_content (Some image) read = keeps image (λ k below. read k below ∙ ap (λ (b : ℕ). block image (b + k)) place)

-- one group more
pub table_more : (old mid : StoreTold) (n : ℕ) (before after : Inodes) (x : Unit {0}) → IsUnchanged old mid → IfSome old.content (NoBadGroup old.geometry)
    → IfSome old.content (AreKeptTo n before old.geometry) → IfSome mid.content (Reads n before after (Ok x) mid.geometry) → IfSome old.content (AreKeptTo (n + 1) after old.geometry)
table_more old mid n before after x same groups kept reads =
    both (λ image. NoBadGroup old.geometry image × AreKeptTo n before old.geometry image) (Reads n before after (Ok x) old.geometry) (AreKeptTo (n + 1) after old.geometry) old.content
    (λ image has reads. reads has.0 has.1)
    (both (NoBadGroup old.geometry) (AreKeptTo n before old.geometry) (λ image. NoBadGroup old.geometry image × AreKeptTo n before old.geometry image) old.content (λ image none are. (none, are)) groups kept)
    (carried_back (Reads n before after (Ok x)) old mid same reads)

-- a group that ends the check
pub table_stopped : {T : Type 0} (Keeps : Geometry → Blocks → T → Type 0) (old mid : StoreTold) (n : ℕ) (before after : Inodes) (stop : Stop) (result : Result T Stop) → IsUnchanged old mid
    → IfSome old.content (NoBadGroup old.geometry) → IfSome old.content (AreKeptTo n before old.geometry) → IfSome mid.content (Reads n before after (Err stop) mid.geometry)
    → IsErrAnd result (λ e. e ≡ stop) → IfSome old.content (λ image. IsPart old.geometry (block image) (Keeps old.geometry (block image)) result)
table_stopped Keeps old mid n before after stop result same groups kept reads given =
    both (λ image. NoBadGroup old.geometry image × AreKeptTo n before old.geometry image) (Reads n before after (Err stop) old.geometry)
    (λ image. IsPart old.geometry (block image) (Keeps old.geometry (block image)) result) old.content
    (λ image has reads. part_stopped {S = Unit {0}} (λ _. AreKeptTo (n + 1) after old.geometry image) (Keeps old.geometry (block image)) old.geometry (block image) stop result (reads has.0 has.1) given)
    (both (NoBadGroup old.geometry) (AreKeptTo n before old.geometry) (λ image. NoBadGroup old.geometry image × AreKeptTo n before old.geometry image) old.content (λ image none are. (none, are)) groups kept)
    (carried_back (Reads n before after (Err stop)) old mid same reads)

-- where no call had failed before the last one
pub fails_last : {P Q : Type 0} {old mid new : DiskTold} → NoneFailed old mid → (Q → P) → (P → Q) → FailsJustAt P mid new → FailsJustAt Q old new
fails_last went back on last = record {
  failed = λ is. (
      let f = last.failed (back is) in
      record { failures = f.failures ∙ ap failed_again went.failures; failed_at = f.failed_at; faults = omega (arith, f.faults, went.faults) }
      );
  none = λ never. none_then went (last.none (λ is. never (on is)));
}

-- an error that is handed on is the same one
pub error_back : {S T : Type 0} (result : Result T Stop) (stop e : Stop) → IsErrAnd result (λ x. x ≡ stop) → IsErrOf result e → IsErrOf {T = S} (Err stop) e
error_back (Ok x) stop e given is = absurd given
error_back (Err x) stop e given is =
    let same : x ≡ e = cc in
    ap (λ (y : Stop). Err y) (sym given ∙ same)

pub error_on : {S T : Type 0} (result : Result T Stop) (stop e : Stop) → IsErrAnd result (λ x. x ≡ stop) → IsErrOf {T = S} (Err stop) e → IsErrOf result e
error_on (Ok x) stop e given is = absurd given
error_on (Err x) stop e given is =
    let same : stop ≡ e = cc in
    ap (λ (y : Stop). Err y) (given ∙ same)
